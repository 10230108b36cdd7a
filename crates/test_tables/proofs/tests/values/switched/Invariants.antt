-- the buffer is of a switch and takes elements
use Rattle.std.proofs.Common.{◌≡◌}
use Rattle.nt_types.specs.declared.column_type.ColumnType.TheVariants.{Switch}
use Rattle.test_tables.proofs.tests.values.switched.Given as goal

abbrev pub invariant-loop-pair : goal.invariant-loop-pair
invariant-loop-pair l = (l.buffer.column.kind ≡ Switch) × (l.buffer.column.zeros ≡ 0)
