use Rattle.std.proofs.Common.{◌∙◌, ap, map, List}
use Rattle.nt_types.specs.declared.column_type.ColumnType.{ColumnType}
use Rattle.nt_column.specs.Column.{empty, columns_of}
use Rattle.nt_fill.proofs.Emptied.{if_ok, new_gives}
use Rattle.nt_fill.proofs.columns.empty_columns.Goals as goal

pub returns : goal.returns
returns c =
    if_ok _ _ c.new.result (λ s is. new_gives c.args.schema.now (columns_of s) c.in_ok-kinds.kinds.items
    (is ∙ ap (λ (l : List ColumnType). map empty l) c.deref.ensures.value) c.in_ok-kinds.ensures) c.new.ensures
