-- the buffer is of characters and takes elements
use Rattle.std.proofs.Common.{◌≡◌}
use Rattle.nt_types.specs.declared.column_type.ColumnType.TheVariants.{Char}
use Rattle.test_tables.proofs.tests.values.spelled.Given as goal

abbrev pub invariant-loop-piece : goal.invariant-loop-piece
invariant-loop-piece l = (l.buffer.column.kind ≡ Char) × (l.buffer.column.zeros ≡ 0)
