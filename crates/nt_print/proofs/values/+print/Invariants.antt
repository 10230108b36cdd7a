use Rattle.std.proofs.Common.{◌-◌, [], ◌∷◌, ◌++◌, map, drop}
use Rattle.nt_plans.specs.Plan.{plans_of}
use Rattle.nt_plans.specs.PlanViews.{plan_view}
use Rattle.nt_trees.specs.TreeAt.{tree_at, each_at, trees_from}
use Rattle.nt_join.specs.Readable.{ReadableEach}
use Rattle.nt_print.proofs.Arrays.{IsBegun}
use Rattle.nt_print.proofs.values.+print.Given as goal

abbrev pub invariant-put_items-loop-i : goal.invariant-put_items-loop-i
invariant-put_items-loop-i g l =
    let f = tree_at (plan_view l.of) (g.C.Columns.elements l.columns) in
    IsBegun (l.fn.out.items ++ l.mark ∷ []) l.out.items l.later (trees_from f l.i (l.to - l.i)) (trees_from f l.from (l.to - l.from))

abbrev pub invariant-put_each-loop-part : goal.invariant-put_each-loop-part
invariant-put_each-loop-part g l =
    let cols = g.C.Columns.elements l.columns in
    let left = plans_of (map plan_view (drop l.part-index l.parts)) in
    record {
      readable : ReadableEach left cols l.i;
      begun : IsBegun l.fn.out.items l.out.items l.later (each_at left cols l.i) (each_at (plans_of (map plan_view l.parts)) cols l.i);
    }
