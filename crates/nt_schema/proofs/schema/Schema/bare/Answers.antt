use Rattle.std.proofs.Common.{◌∙◌, List, ap, map, rules}
use Rattle.nt_grammar.specs.declared.rows.FieldRow.{FieldRow}
use Rattle.nt_schema.proofs.BareRows.{bare-table}
use Rattle.nt_schema.proofs.schema.Schema.bare.Goals as goal

pub of_rows-requires : goal.of_rows-requires
of_rows-requires c =
    bare-table _ c.in_ok-fields.fields.items _ c.fields-in_header.result c.columns-columns_in_header.result c.self.invariant.rows
    (c.in_ok-fields.ensures ∙ ap (λ (l : List FieldRow). map (λ (r : FieldRow). record r { flags = 0 }) l) c.deref.ensures.value)
    (search rules) (c.fields-in_header.ensures ∙ (search rules)) (c.columns-columns_in_header.ensures ∙ (search rules))
