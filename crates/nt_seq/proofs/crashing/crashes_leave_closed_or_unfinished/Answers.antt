use Rattle.nt_seq.proofs.Cuts.{appends_leave}
use Rattle.nt_seq.proofs.crashing.crashes_leave_closed_or_unfinished.Goals as goal

pub returns : goal.returns
returns c =
    let laws = c.ordered_steps_leave_unfinished.ensures in
    appends_leave c.filling_leaves_unfinished.ensures.beginning laws.order laws.written laws.torn c.unclosed_files_are_shut.ensures.shut
    c.unclosed_files_are_shut.ensures.order
