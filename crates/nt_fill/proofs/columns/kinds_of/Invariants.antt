use Rattle.std.proofs.Common.{◌≡◌, ◌++◌, map}
use Rattle.std.specs.Prelude.{drop}
use Rattle.nt_types.specs.ColumnTable.{code_of}
use Rattle.nt_grammar.specs.declared.rows.ColumnRow.{ColumnRow}
use Rattle.nt_fill.proofs.columns.kinds_of.Given as goal

-- with the rows that are left the codes are whole
abbrev pub invariant-loop-k : goal.invariant-loop-k
invariant-loop-k l =
    map code_of l.kinds.items ++ map (λ (r : ColumnRow). r.code) (drop l.k l.schema.columns)
    ≡ map (λ (r : ColumnRow). r.code) l.schema.columns
