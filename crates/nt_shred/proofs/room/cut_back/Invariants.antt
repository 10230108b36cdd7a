use Rattle.std.proofs.Common.{◌≡◌}
use Rattle.nt_column.specs.Column.{columns_of}
use Rattle.nt_shred.proofs.Cutting.{cut_first}
use Rattle.nt_shred.proofs.room.cut_back.Given as goal

abbrev pub invariant-loop-column : goal.invariant-loop-column
invariant-loop-column l = columns_of l.out ≡ cut_first l.column l.marks (columns_of l.fn.out)
