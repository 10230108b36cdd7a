use Rattle.std.proofs.Common.{◌++◌, ◌∷◌, take, ap, ◌∙◌, arith}
use Rattle.serde_json.specs.Written.{compact_text}
use Rattle.nt_types.specs.TreeData.{TreeData}
use Rattle.nt_event.specs.Json.{data_of}
use Rattle.nt_plans.specs.PlanViews.{plan_view}
use Rattle.nt_lines.proofs.LentPlans.{has-value, value-lent}
use Rattle.nt_lines.proofs.entry.place_value.Goals as goal

pub place_lent-end-requires : goal.place_lent-end-requires
place_lent-end-requires g c = (
  has-value (plan_view c.args.plan.now.plan.now) (g.C.Columns.elements c.args.lines.now.columns.now) c.args.plan.now.lent c.args.value.0
      c.requires.can.0.lent c.requires.can.0.readable,
  c.requires.can.1,
)

pub is_made_apart-requires : goal.is_made_apart-requires
is_made_apart-requires g c =
    has-value (plan_view c.args.plan.now.plan.now) (g.C.Columns.elements c.args.lines.now.columns.now) c.args.plan.now.lent c.args.value.0
    c.requires.can.0.lent c.requires.can.0.readable

pub returns-then-end-ne0-clause-text : goal.returns-then-end-ne0-clause-text
returns-then-end-ne0-clause-text g c = λ some.
    let p = plan_view c.args.plan.now.plan.now in
    let cols = g.C.Columns.elements c.args.lines.now.columns.now in
    let lent = c.args.plan.now.lent in
    c.place_lent-end.ensures.text some
    ∙ ap (λ (t : TreeData). take c.args.at c.args.room.now ++ c.args.value.1 ∷ compact_text (data_of t))
    (value-lent p cols lent c.args.value.0 c.requires.can.0.lent
    (has-value p cols lent c.args.value.0 c.requires.can.0.lent c.requires.can.0.readable)
    (λ is. absurd (omega (arith, c.place_lent-end.ensures.none is, some))))
