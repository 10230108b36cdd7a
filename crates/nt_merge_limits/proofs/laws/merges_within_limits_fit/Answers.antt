use Rattle.nt_merge_limits.proofs.Closing.{closed-fits}
use Rattle.nt_merge_limits.proofs.laws.merges_within_limits_fit.Goals as goal

pub returns : goal.returns
returns c = λ t p book is within short few. closed-fits t p book is within short few
