use Rattle.std.proofs.Common.{◌∙◌, ap, map, ℕ, List, get_or}
use Rattle.std.proofs.lemmas.List.{take_all}
use Rattle.nt_types.specs.TreeData.{trees_of}
use Rattle.nt_types.specs.TreeViews.{tree_view}
use Rattle.nt_plans.specs.Plan.{plans_of}
use Rattle.nt_plans.specs.PlanViews.{plans_view}
use Rattle.nt_trees.specs.TreeAt.{each_at}
use Rattle.nt_join.specs.Chosen.{tree_in}
use Rattle.nt_join.proofs.Places.{list-grown, any-default}
use Rattle.nt_join.proofs.chosen.chosen_by.Goals as goal

pub loop-place-preserved : goal.loop-place-preserved
loop-place-preserved g c =
    let f = tree_in (each_at (plans_of (plans_view c.args.plans.now)) (g.C.Columns.elements c.args.columns.now) c.args.i) in
    let x = get_or c.args.places.now c.loop-place.place-index 0 in
    list-grown tree_view f c.args.places.now c.loop-place.place-index x c.loop-place.list.items c.push.new.self.items
    c.in_ok-tree_by.field-0 c.loop-place.invariant c.loop-place-test.true
    (any-default c.args.places.now c.loop-place.place-index 0 x c.loop-place-test.true) c.in_ok-tree_by.ensures c.in_ok-push.ensures.items

pub returns : goal.returns
returns g c =
    let f = tree_in (each_at (plans_of (plans_view c.args.plans.now)) (g.C.Columns.elements c.args.columns.now) c.args.i) in
    ap trees_of c.from_vec.ensures
    ∙ ap trees_of
    (c.loop-place.invariant
    ∙ ap (λ (l : List ℕ). map f l) (take_all c.loop-place.place-index c.args.places.now c.loop-place-test.false))
