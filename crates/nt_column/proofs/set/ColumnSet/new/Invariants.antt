use Rattle.std.proofs.Common.{◌≡◌, map, take}
use Rattle.nt_column.specs.Column.{empty, columns_of}
use Rattle.nt_column.proofs.set.ColumnSet.new.Given as goal

abbrev pub invariant-loop-kind : goal.invariant-loop-kind
invariant-loop-kind l = columns_of l.buffers.items ≡ map empty (take l.kind-index l.kinds)
