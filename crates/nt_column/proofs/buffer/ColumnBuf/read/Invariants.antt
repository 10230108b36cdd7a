-- the numbers so far are read
use Rattle.std.proofs.Common.{◌+◌, get_or}
use Rattle.nt_encode.proofs.Lists.{Filled}
use Rattle.nt_column.specs.Elements.{numbers}
use Rattle.nt_column.proofs.buffer.ColumnBuf.read.Given as goal

abbrev pub invariant-loop-i : goal.invariant-loop-i
invariant-loop-i l = Filled l.out l.i (λ p. get_or (numbers l.self.column.elements) (l.from + p) 0)
