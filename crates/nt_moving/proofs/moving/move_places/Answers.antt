use Rattle.nt_plans.specs.PlanViews.{plan_view}
use Rattle.nt_trees.specs.TreeAt.{each_at}
use Rattle.nt_trees.specs.Views.{plans_in}
use Rattle.nt_shred.proofs.Left.{each-first, each-next}
use Rattle.nt_moving.proofs.Lists.{places-step}
use Rattle.nt_moving.proofs.moving.move_places.Goals as goal

pub move_place-requires-clause-ready : goal.move_place-requires-clause-ready
move_place-requires-clause-ready g c κs within =
    let entry = each_at (plans_in c.args.from.now) (g.C.Columns.elements c.args.columns.now) c.args.i in
    let first = c.index-to-k.result in
    let left = places-step c.args.to.now c.args.places.now entry c.loop-k.k first _ c.args.out.now c.loop-k.out c.loop-k-test.true
    c.index-to-k.is c.loop-k.invariant in
    each-first _ _ (plan_view first) _ _ _ c.args.out.now c.loop-k.out left

pub loop-k-preserved : goal.loop-k-preserved
loop-k-preserved g c =
    let entry = each_at (plans_in c.args.from.now) (g.C.Columns.elements c.args.columns.now) c.args.i in
    let first = c.index-to-k.result in
    let left = places-step c.args.to.now c.args.places.now entry c.loop-k.k first _ c.args.out.now c.loop-k.out c.loop-k-test.true
    c.index-to-k.is c.loop-k.invariant in
    each-next _ _ (plan_view first) _ _ _ c.args.out.now c.loop-k.out c.move_place.new.out left c.move_place.ensures
