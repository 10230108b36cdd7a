use Rattle.nt_crash.proofs.Finishing.{entries-left, entries-kept}
use Rattle.nt_crash.proofs.laws.crashes_leave_all_entries_or_none.Goals as goal

pub returns-clause-written : goal.returns-clause-written
returns-clause-written c = λ t clusters m book left is measures.
    entries-left c.steps_stand.ensures.behind c.filled_files_are_known.ensures c.arranged_files_are_laid.ensures.laid
    c.finished_files_mean_their_entries.ensures
    t clusters m book is measures left

pub returns-clause-closed : goal.returns-clause-closed
returns-clause-closed c = λ t clusters m book h is measures.
    entries-kept c.steps_stand.ensures.behind c.filled_files_are_known.ensures c.arranged_files_are_laid.ensures.laid
    c.finished_files_mean_their_entries.ensures
    t clusters m book is measures h
