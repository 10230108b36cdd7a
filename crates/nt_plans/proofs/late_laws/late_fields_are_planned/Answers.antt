use Rattle.nt_plans.proofs.Late.{Added-grows}
use Rattle.nt_plans.proofs.late_laws.late_fields_are_planned.Goals as goal

pub returns : goal.returns
returns c = Added-grows
