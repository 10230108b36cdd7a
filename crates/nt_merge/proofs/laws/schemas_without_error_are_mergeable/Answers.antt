use Rattle.nt_merge.proofs.Mergeable.{none-against}
use Rattle.nt_merge.proofs.laws.schemas_without_error_are_mergeable.Goals as goal

pub returns : goal.returns
returns c = none-against
