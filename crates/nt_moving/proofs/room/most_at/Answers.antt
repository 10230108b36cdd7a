use Rattle.std.proofs.Common.{◌≡◌, ap, sym, subst, arith}
use Rattle.std.specs.Prelude.{IfOk}
use Rattle.nt_join.proofs.Places.{place-readable, place-tree, place-past}
use Rattle.nt_shred.specs.Most.{most}
use Rattle.nt_moving.proofs.room.most_at.Goals as goal

pub returns-then-place-plans : goal.returns-then-place-plans
returns-then-place-plans g c =
    let cols = g.C.Columns.elements c.args.columns.now in
    sym (ap most (place-past c.args.plans.now c.args.place cols c.args.i (omega (arith, c.if-place-plans.true))))

pub most-requires-after_bounds : goal.most-requires-after_bounds
most-requires-after_bounds g c κs within =
    let cols = g.C.Columns.elements c.args.columns.now in
    place-readable c.args.plans.now c.args.place c.index-plans-place.result cols c.args.i (omega (arith, c.if-place-plans.false))
    c.index-plans-place.is c.requires

pub returns : goal.returns
returns g c =
    let cols = g.C.Columns.elements c.args.columns.now in
    subst (λ v. IfOk c.most.result (λ n. n ≡ most v))
    (sym (place-tree c.args.plans.now c.args.place c.index-plans-place.result cols c.args.i (omega (arith, c.if-place-plans.false))
    c.index-plans-place.is)) c.most.ensures
