use Rattle.std.proofs.Common.{◌≡◌, map, drop}
use Rattle.nt_types.specs.ShapeData.{kinds_of, parts_of}
use Rattle.nt_types.specs.Views.{shape_view, member_view}
use Rattle.nt_grammar.specs.Open.{ids_inside}
use Rattle.nt_plans.specs.PlanViews.{plan_view}
use Rattle.nt_plans.specs.Place.{place_members, place_each}
use Rattle.nt_open.proofs.InOrder.{joined}
use Rattle.nt_open.proofs.placing.+place.Given as goal

abbrev pub invariant-place_members-loop-at : goal.invariant-place_members-loop-at
invariant-place_members-loop-at l =
    joined (map plan_view l.list.items) (place_members l.rows.fields.now l.rows.columns.now
    (parts_of (map member_view (drop l.at l.members))) (drop l.at (ids_inside l.id 0 l.rows.fields.now)))
    ≡ place_members l.rows.fields.now l.rows.columns.now (parts_of (map member_view l.members)) (ids_inside l.id 0 l.rows.fields.now)

abbrev pub invariant-place_each-loop-at : goal.invariant-place_each-loop-at
invariant-place_each-loop-at l =
    joined (map plan_view l.list.items) (place_each l.rows.fields.now l.rows.columns.now
    (kinds_of (map shape_view (drop l.at l.shapes))) (drop l.at (ids_inside l.id 0 l.rows.fields.now)))
    ≡ place_each l.rows.fields.now l.rows.columns.now (kinds_of (map shape_view l.shapes)) (ids_inside l.id 0 l.rows.fields.now)
