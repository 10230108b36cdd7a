use Rattle.nt_merge_limits.proofs.Passed.{begun-over, appended-over}
use Rattle.nt_merge_limits.proofs.Closing.{closed-over}
use Rattle.nt_merge_limits.proofs.laws.merges_pass_what_their_fronts_pass.Goals as goal

pub returns-clause-begun : goal.returns-clause-begun
returns-clause-begun c = begun-over

pub returns-clause-appended : goal.returns-clause-appended
returns-clause-appended c = appended-over c.whole_files_are_longest.ensures.clusters

pub returns-clause-closed : goal.returns-clause-closed
returns-clause-closed c = closed-over
