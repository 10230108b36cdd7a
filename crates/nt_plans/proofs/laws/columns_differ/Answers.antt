use Rattle.nt_plans.proofs.Tops.{plans-differ}
use Rattle.nt_plans.proofs.laws.columns_differ.Goals as goal

pub returns : goal.returns
returns c = plans-differ
