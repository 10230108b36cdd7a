use Rattle.nt_plans.proofs.NeedLaws.{need_of-some, top_of-some}
use Rattle.nt_plans.proofs.laws.columns_have_needs.Goals as goal

pub returns-clause-need : goal.returns-clause-need
returns-clause-need c = need_of-some

pub returns-clause-top : goal.returns-clause-top
returns-clause-top c = top_of-some
