use Rattle.std.proofs.Common.{◌-◌, ◌∙◌, suc, ap, sym}
use Rattle.nt_plans.specs.Plan.{maybe}
use Rattle.nt_plans.specs.PlanViews.{plan_view}
use Rattle.nt_plans.proofs.PlanViews.{view-Maybe}
use Rattle.nt_trees.specs.Columns.{begin_at}
use Rattle.nt_trees.specs.TreeAt.{tree_at}
use Rattle.nt_shred.specs.Most.{most}
use Rattle.nt_moving.proofs.Trees.{most-only}
use Rattle.nt_moving.proofs.room.+is_single.Goals as goal

pub returns-in-Maybe : goal.returns-in-Maybe
returns-in-Maybe t c single cols i =
    let k = c.in-Maybe.ends in
    let of = plan_view c.deref.result.now in
    let is = ap plan_view c.in-Maybe.is ∙ view-Maybe k c.in-Maybe.of ∙ ap (λ p. maybe k (plan_view p)) (sym c.deref.ensures) in
    ap (λ p. most (tree_at p cols i)) is
    ∙ most-only (tree_at of cols) (begin_at (cols k) i) (begin_at (cols k) (suc i) - begin_at (cols k) i) (c.is_single.ensures single cols)
