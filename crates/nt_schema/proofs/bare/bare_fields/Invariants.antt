use Rattle.std.proofs.Common.{◌≡◌, ◌++◌, map, drop}
use Rattle.nt_grammar.specs.declared.rows.FieldRow.{FieldRow}
use Rattle.nt_schema.proofs.bare.bare_fields.Given as goal

abbrev pub invariant-loop-row : goal.invariant-loop-row
invariant-loop-row l = record {
  rows : l.bare.items ++ map (λ (r : FieldRow). record r { flags = 0 }) (drop l.row-index l.rows)
      ≡ map (λ (r : FieldRow). record r { flags = 0 }) l.rows;
}
