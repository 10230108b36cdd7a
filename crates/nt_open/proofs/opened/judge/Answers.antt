use Rattle.std.proofs.Common.{◌∙◌, ap, length}
use Rattle.nt_types.specs.Views.{shape_view}
use Rattle.nt_open.proofs.Levels.{kept_count}
use Rattle.nt_open.proofs.opened.judge.Goals as goal

pub plans_of-requires-clause-each : goal.plans_of-requires-clause-each
plans_of-requires-clause-each c =
    ap length c.deref.ensures.value
    ∙ kept_count shape_view c.in_ok-shapes.shapes.items c.in_ok-rows.rows.fields.now c.in_ok-rows.rows.columns.now c.in_ok-shapes.ensures
