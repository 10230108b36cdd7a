use Rattle.std.proofs.Common.{sym, subst, arith}
use Rattle.nt_plans.specs.PlanViews.{plan_view}
use Rattle.nt_trees.specs.Put.{put_tree}
use Rattle.nt_join.proofs.Places.{place-readable, place-tree, place-past}
use Rattle.nt_shred.specs.Steps.{Ready, GainsInRoom}
use Rattle.nt_moving.proofs.moving.move_place.Goals as goal

pub move_level-requires-clause-ready : goal.move_level-requires-clause-ready
move_level-requires-clause-ready g c κs within =
    let cols = g.C.Columns.elements c.args.columns.now in
    subst (λ t. Ready (plan_view c.args.to.now) t c.args.out.now)
    (place-past c.args.from.now c.args.place cols c.args.i (omega (arith, c.if-place-from.true))) c.requires.ready

pub returns-then-place-from : goal.returns-then-place-from
returns-then-place-from g c =
    let cols = g.C.Columns.elements c.args.columns.now in
    subst (λ t. GainsInRoom (put_tree (plan_view c.args.to.now) t) c.args.out.now c.move_level.new.out)
    (sym (place-past c.args.from.now c.args.place cols c.args.i (omega (arith, c.if-place-from.true)))) c.move_level.ensures

pub move_tree-requires-clause-readable : goal.move_tree-requires-clause-readable
move_tree-requires-clause-readable g c κs within =
    let cols = g.C.Columns.elements c.args.columns.now in
    place-readable c.args.from.now c.args.place c.index-from-place.result cols c.args.i (omega (arith, c.if-place-from.false))
    c.index-from-place.is c.requires.readable

pub move_tree-requires-clause-ready : goal.move_tree-requires-clause-ready
move_tree-requires-clause-ready g c κs within =
    let cols = g.C.Columns.elements c.args.columns.now in
    subst (λ t. Ready (plan_view c.args.to.now) t c.args.out.now)
    (place-tree c.args.from.now c.args.place c.index-from-place.result cols c.args.i (omega (arith, c.if-place-from.false))
    c.index-from-place.is)
    c.requires.ready

pub returns-else-place-from : goal.returns-else-place-from
returns-else-place-from g c =
    let cols = g.C.Columns.elements c.args.columns.now in
    subst (λ t. GainsInRoom (put_tree (plan_view c.args.to.now) t) c.args.out.now c.move_tree.new.out)
    (sym (place-tree c.args.from.now c.args.place c.index-from-place.result cols c.args.i (omega (arith, c.if-place-from.false))
    c.index-from-place.is)) c.move_tree.ensures
