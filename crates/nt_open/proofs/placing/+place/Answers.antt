use Rattle.std.proofs.Common.{◌∙◌, ap, arith}
use Rattle.nt_types.specs.Views.{shape_view}
use Rattle.nt_types.specs.ShapeData.{kinds_of, parts_of}
use Rattle.nt_grammar.specs.Open.{ids_inside}
use Rattle.nt_plans.specs.Plan.{plans_of}
use Rattle.nt_plans.specs.Place.{place, place_members, place_each}
use Rattle.nt_types.specs.Views.{member_view}
use Rattle.std.proofs.Common.{map}
use Rattle.nt_open.proofs.InOrder.{member_placed, members_placed, shape_placed, shapes_placed}
use Rattle.nt_open.proofs.placing.+place.Goals as goal

pub place_each-loop-at-preserved : goal.place_each-loop-at-preserved
place_each-loop-at-preserved t c =
    let fs = c.args.rows.now.fields.now in
    let cs = c.args.rows.now.columns.now in
    rw c.in_ok-push.ensures.items (shape_placed fs cs c.args.shapes.now (ids_inside c.args.id 0 fs) c.loop-at.at c.index-shapes-at.result
    c.loop-at.list.items c.in_ok-place.field-0 (place_each fs cs (kinds_of (map shape_view c.args.shapes.now)) (ids_inside c.args.id 0 fs))
    (omega (arith, c.loop-at-test.true)) c.index-shapes-at.is
    (c.in_ok-place.ensures ∙ ap (place fs cs (shape_view c.index-shapes-at.result)) c.inside_at.ensures.id)
    c.loop-at.invariant)

pub place_each-returns : goal.place_each-returns
place_each-returns t c =
    let fs = c.args.rows.now.fields.now in
    let cs = c.args.rows.now.columns.now in
    ap plans_of c.from_vec.ensures ∙ shapes_placed fs cs c.args.shapes.now (ids_inside c.args.id 0 fs) c.loop-at.at c.loop-at.list.items
    (place_each fs cs (kinds_of (map shape_view c.args.shapes.now)) (ids_inside c.args.id 0 fs))
    (omega (arith, c.loop-at-test.false)) c.loop-at.invariant

pub place_members-loop-at-preserved : goal.place_members-loop-at-preserved
place_members-loop-at-preserved t c =
    let fs = c.args.rows.now.fields.now in
    let cs = c.args.rows.now.columns.now in
    rw c.in_ok-push.ensures.items (member_placed fs cs c.args.members.now (ids_inside c.args.id 0 fs) c.loop-at.at c.index-members-at.result
    c.loop-at.list.items c.in_ok-place.field-0 (place_members fs cs (parts_of (map member_view c.args.members.now))
    (ids_inside c.args.id 0 fs))
    (omega (arith, c.loop-at-test.true)) c.index-members-at.is
    (c.in_ok-place.ensures ∙ ap (place fs cs (shape_view c.index-members-at.result.of)) c.inside_at.ensures.id)
    c.loop-at.invariant)

pub place_members-returns : goal.place_members-returns
place_members-returns t c =
    let fs = c.args.rows.now.fields.now in
    let cs = c.args.rows.now.columns.now in
    ap plans_of c.from_vec.ensures ∙ members_placed fs cs c.args.members.now (ids_inside c.args.id 0 fs) c.loop-at.at c.loop-at.list.items
    (place_members fs cs (parts_of (map member_view c.args.members.now)) (ids_inside c.args.id 0 fs))
    (omega (arith, c.loop-at-test.false)) c.loop-at.invariant
