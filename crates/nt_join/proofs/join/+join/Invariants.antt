use Rattle.std.proofs.Common.{◌≡◌, ◌-◌, map, drop}
use Rattle.nt_types.specs.TreeViews.{tree_view}
use Rattle.nt_plans.specs.Plan.{plans_of}
use Rattle.nt_plans.specs.PlanViews.{plan_view}
use Rattle.nt_trees.specs.TreeAt.{tree_at, each_at}
use Rattle.nt_join.specs.Readable.{ReadableEach}
use Rattle.nt_join.proofs.Joins.{list_from, before_trees}
use Rattle.nt_join.proofs.join.+join.Given as goal

abbrev pub invariant-each-loop-part : goal.invariant-each-loop-part
invariant-each-loop-part g l =
    let cols = g.C.Columns.elements l.columns in
    let left = plans_of (map plan_view (drop l.part-index l.parts)) in
    record {
      readable : ReadableEach left cols l.i;
      joined : before_trees (map tree_view l.list.items) (each_at left cols l.i) ≡ each_at (plans_of (map plan_view l.parts)) cols l.i;
    }

abbrev pub invariant-range-loop-i : goal.invariant-range-loop-i
invariant-range-loop-i g l =
    map tree_view l.list.items ≡ list_from (tree_at (plan_view l.of) (g.C.Columns.elements l.columns)) l.from (l.i - l.from)
