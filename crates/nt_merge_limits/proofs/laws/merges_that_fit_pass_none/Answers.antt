use Rattle.nt_merge_limits.proofs.Passed.{none-over}
use Rattle.nt_merge_limits.proofs.laws.merges_that_fit_pass_none.Goals as goal

pub returns : goal.returns
returns c = none-over
