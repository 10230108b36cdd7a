use Rattle.nt_plans.proofs.LateNeeds.{need-before, need-behind}
use Rattle.nt_plans.proofs.late_laws.late_fields_have_needs.Goals as goal

pub returns : goal.returns
returns c = record { before = need-before; behind = need-behind }
