use Rattle.std.proofs.Common.{◌∙◌, ap}
use Rattle.nt_grammar.specs.Table.{Table}
use Rattle.nt_grammar.specs.Open.{open_shapes}
use Rattle.nt_plans.specs.Needs.{is_entries, need_of}
use Rattle.nt_open.proofs.UseLaws.{kept-principal}
use Rattle.nt_schema.proofs.schema.Schema.is_principal.Goals as goal

pub returns : goal.returns
returns c =
    let fs = c.self.inside.fields.items in
    let cs = c.self.inside.columns.items in
    c.is_principal.ensures
    ∙ kept-principal fs cs (open_shapes fs cs 0 fs) c.self.inside.kept.uses.items c.args.column c.self.invariant.opened.uses
    (rw (← c.self.view_is) at c.requires)
    ∙ ap (λ (t : Table). is_entries (need_of t c.args.column)) c.self.view_is
