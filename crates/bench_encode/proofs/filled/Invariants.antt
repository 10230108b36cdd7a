-- the buffer is of this type and takes elements
use Rattle.std.proofs.Common.{◌≡◌}
use Rattle.bench_encode.proofs.filled.Given as goal

abbrev pub invariant-loop-value : goal.invariant-loop-value
invariant-loop-value l = (l.buffer.column.kind ≡ l.kind) × (l.buffer.column.zeros ≡ 0)
