use Rattle.std.proofs.Common.{◌-◌, drop}
use Rattle.nt_plans.specs.PlanViews.{plan_view}
use Rattle.nt_trees.specs.TreeAt.{tree_at, each_at, trees_from}
use Rattle.nt_trees.specs.Views.{plans_in}
use Rattle.nt_join.specs.Readable.{ReadableEach}
use Rattle.nt_shred.proofs.Left.{LeftAll, LeftEach}
use Rattle.nt_moving.proofs.moving.+moving.Given as goal

abbrev pub invariant-move_each-loop-i : goal.invariant-move_each-loop-i
invariant-move_each-loop-i g l =
    let f = tree_at (plan_view l.items.of.now) (g.C.Columns.elements l.columns) in
    let to = l.items.to in
    LeftAll (plan_view l.to) (trees_from f l.items.from (to - l.items.from)) (trees_from f l.i (to - l.i)) l.fn.out l.out

abbrev pub invariant-move_parts-loop-k : goal.invariant-move_parts-loop-k
invariant-move_parts-loop-k g l =
    let cols = g.C.Columns.elements l.columns in
    let of = l.parts.of.now in
    let left = plans_in (drop l.k of) in
    record {
      readable : ReadableEach left cols l.parts.i;
      left : LeftEach (plans_in l.to) (each_at (plans_in of) cols l.parts.i) (plans_in (drop l.k l.to)) (each_at left cols l.parts.i)
          l.fn.out l.out;
    }
