use Rattle.nt_plans.proofs.Tops.{plans-types}
use Rattle.nt_plans.proofs.laws.columns_have_types.Goals as goal

pub returns : goal.returns
returns c = plans-types
