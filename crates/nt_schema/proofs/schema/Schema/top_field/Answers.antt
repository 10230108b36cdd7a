use Rattle.std.proofs.Common.{◌∙◌}
use Rattle.nt_grammar.specs.Open.{open_shapes}
use Rattle.nt_open.proofs.UseLaws.{kept-top}
use Rattle.nt_schema.proofs.schema.Schema.top_field.Goals as goal

pub returns : goal.returns
returns c =
    let fs = c.self.inside.fields.items in
    let cs = c.self.inside.columns.items in
    rw (← c.self.view_is) (c.top_field.ensures
    ∙ kept-top fs cs (open_shapes fs cs 0 fs) c.self.inside.kept.uses.items c.args.column c.self.invariant.opened.uses
    (rw (← c.self.view_is) at c.requires))
