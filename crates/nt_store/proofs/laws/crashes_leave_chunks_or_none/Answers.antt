use Rattle.nt_store.proofs.Crashing.{chunks_leave}
use Rattle.nt_store.proofs.laws.crashes_leave_chunks_or_none.Goals as goal

pub returns : goal.returns
returns c =
    chunks_leave c.finished_files_are_stored.ensures.lengths c.finished_files_are_stored.ensures.stored
    c.filling_leaves_unfinished.ensures.beginning c.filling_leaves_unfinished.ensures.filling
    c.closing_leaves_unfinished_or_finished.ensures.closing c.closing_leaves_unfinished_or_finished.ensures.closed
