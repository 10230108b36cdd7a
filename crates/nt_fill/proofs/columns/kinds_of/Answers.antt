use Rattle.std.proofs.Common.{◌∙◌, ◌++◌, ◌+◌, ap, map, List}
use Rattle.std.specs.Prelude.{drop}
use Rattle.nt_types.specs.ColumnTable.{code_of}
use Rattle.nt_types.specs.declared.column_type.ColumnType.{ColumnType}
use Rattle.nt_grammar.specs.declared.rows.ColumnRow.{ColumnRow}
use Rattle.nt_fill.proofs.Described.{codes_next}
use Rattle.nt_fill.proofs.columns.kinds_of.Goals as goal

pub loop-k-preserved : goal.loop-k-preserved
loop-k-preserved c =
    let rows = c.args.schema.now.columns in
    let next = codes_next rows c.loop-k.k c.column.result.now c.loop-k.kinds.items c.kind_of.result _ c.column.ensures
    c.kind_of.ensures c.loop-k.invariant in
    ap (λ (l : List ColumnType). map code_of l ++ map (λ (r : ColumnRow). r.code) (drop (c.loop-k.k + 1) rows))
    c.in_ok-push.ensures.items ∙ next
