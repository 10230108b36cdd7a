use Rattle.std.proofs.Common.{drop}
use Rattle.nt_plans.specs.PlanViews.{plan_view}
use Rattle.nt_trees.specs.Views.{plans_in, trees_in}
use Rattle.nt_shred.proofs.Left.{LeftAll, LeftEach}
use Rattle.nt_shred.proofs.putting.+put.Given as goal

abbrev pub invariant-put_each-loop-item : goal.invariant-put_each-loop-item
invariant-put_each-loop-item l = LeftAll (plan_view l.of) (trees_in l.items) (trees_in (drop l.item-index l.items)) l.fn.out l.out

abbrev pub invariant-put_trees-loop-i : goal.invariant-put_trees-loop-i
invariant-put_trees-loop-i l = LeftEach (plans_in l.plans) (trees_in l.trees) (plans_in (drop l.i l.plans))
    (trees_in (drop l.i l.trees)) l.fn.out l.out
