use Rattle.std.proofs.Common.{◌<◌, ◌∙◌, ap, map, length, arith}
use Rattle.std.specs.Prelude.{option_map}
use Rattle.nt_types.specs.Views.{shape_view}
use Rattle.nt_plans.specs.Plan.{plans_of}
use Rattle.nt_plans.specs.Place.{place_from}
use Rattle.nt_open.specs.Uses.{use_at, use_from}
use Rattle.nt_open.proofs.InOrder.{field_placed, field_passed, fields_placed, field_noted, field_unnoted}
use Rattle.nt_open.proofs.placing.plans_of.Goals.{in-Some+in_ok-plan+in_ok-push, in_default}
use Rattle.nt_open.proofs.placing.plans_of.Goals as goal

pub loop-id-preserved : goal.loop-id-preserved
loop-id-preserved c =
    let fs = c.args.rows.now.fields.now in
    let cs = c.args.rows.now.columns.now in
    let ss = c.args.shapes.now in
    let i = c.loop-id.id in
    let within : i < length ss = omega (arith, c.loop-id-test.true) in
    let v = c.loop-id.invariant in
    elim c.match-shape.branch [
      | in-Some+in_ok-plan+in_ok-push w ↦ record {
        plans = rw w.list-is (rw w.in_ok-push.ensures.items
            (field_placed fs cs ss i c.index-shapes-id.result w.in-Some.shape c.loop-id.list.items w.in_ok-plan.plan
            (place_from fs cs 0 (map (option_map shape_view) ss)) within c.index-shapes-id.is w.in-Some.is w.in_ok-plan.ensures v.plans));
        count = rw w.uses-is (w.mark_field.ensures.count ∙ v.count);
        uses = λ k few. rw w.uses-is
            (field_noted fs cs ss i c.index-shapes-id.result w.in-Some.shape w.in_ok-plan.plan k (use_at c.loop-id.uses.items k)
            (use_at w.mark_field.new.uses.items k) (use_from fs cs 0 (map (option_map shape_view) ss) k) within c.index-shapes-id.is
            w.in-Some.is w.in_ok-plan.ensures (w.mark_field.ensures.each k (omega (arith, few, v.count))) (v.uses k few));
      }
      | in_default w ↦ record {
        plans = rw w.list-is (field_passed fs cs ss i c.index-shapes-id.result c.loop-id.list.items
            (place_from fs cs 0 (map (option_map shape_view) ss)) within c.index-shapes-id.is w.in_default.is v.plans);
        count = rw w.uses-is v.count;
        uses = λ k few. rw w.uses-is (field_unnoted fs cs ss i c.index-shapes-id.result k (use_at c.loop-id.uses.items k)
            (use_from fs cs 0 (map (option_map shape_view) ss) k) within c.index-shapes-id.is w.in_default.is (v.uses k few));
      }
    ]

pub returns-clause-plans : goal.returns-clause-plans
returns-clause-plans c =
    let fs = c.args.rows.now.fields.now in
    let cs = c.args.rows.now.columns.now in
    let ss = c.args.shapes.now in
    ap plans_of c.from_vec.ensures ∙ fields_placed fs cs ss c.loop-id.id c.loop-id.list.items
    (place_from fs cs 0 (map (option_map shape_view) ss)) (omega (arith, c.loop-id-test.false)) c.loop-id.invariant.plans
