use Rattle.std.proofs.Common.{◌∙◌}
use Rattle.nt_types.specs.Views.{shape_view}
use Rattle.nt_open.proofs.Levels.{kept_shape}
use Rattle.nt_schema.proofs.schema.Schema.shape.Goals as goal

pub returns : goal.returns
returns c = rw (← c.self.view_is) (c.shape_at.ensures
    ∙ rw c.deref.ensures.value
    (kept_shape shape_view c.self.inside.kept.shapes.items c.self.inside.fields.items c.self.inside.columns.items c.args.field
    c.self.invariant.opened.shapes))
