use Rattle.std.proofs.Common.{◌≡◌, map, take}
use Rattle.nt_types.specs.TreeViews.{tree_view}
use Rattle.nt_plans.specs.Plan.{plans_of}
use Rattle.nt_plans.specs.PlanViews.{plans_view}
use Rattle.nt_trees.specs.TreeAt.{each_at}
use Rattle.nt_join.specs.Chosen.{tree_in}
use Rattle.nt_join.proofs.chosen.chosen_by.Given as goal

abbrev pub invariant-loop-place : goal.invariant-loop-place
invariant-loop-place g l =
    map tree_view l.list.items
    ≡ map (tree_in (each_at (plans_of (plans_view l.plans)) (g.C.Columns.elements l.columns) l.i)) (take l.place-index l.places)
