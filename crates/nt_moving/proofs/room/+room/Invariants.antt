use Rattle.std.proofs.Common.{◌≡◌, ◌+◌, ◌-◌, max, drop}
use Rattle.nt_plans.specs.PlanViews.{plan_view}
use Rattle.nt_trees.specs.TreeAt.{tree_at, each_at, trees_from}
use Rattle.nt_trees.specs.Views.{plans_in}
use Rattle.nt_join.specs.Readable.{ReadableEach}
use Rattle.nt_shred.specs.Most.{most_of_all, most_of_any}
use Rattle.nt_moving.proofs.room.+room.Given as goal

abbrev pub invariant-most_of_all-loop-i : goal.invariant-most_of_all-loop-i
invariant-most_of_all-loop-i g l =
    let f = tree_at (plan_view l.of) (g.C.Columns.elements l.columns) in
    l.total + most_of_all (trees_from f l.i (l.to - l.i)) ≡ most_of_all (trees_from f l.from (l.to - l.from))

abbrev pub invariant-most_of_any-loop-plan : goal.invariant-most_of_any-loop-plan
invariant-most_of_any-loop-plan g l =
    let cols = g.C.Columns.elements l.columns in
    let left = plans_in (drop l.plan-index l.plans) in
    record {
      readable : ReadableEach left cols l.i;
      most : max l.highest (most_of_any (each_at left cols l.i)) ≡ most_of_any (each_at (plans_in l.plans) cols l.i);
    }
