use Rattle.std.proofs.Common.{◌≡◌}
use Rattle.std.specs.List.{slice_range}
use Rattle.nt_column.specs.Elements.{text_of}
use Rattle.nt_column.proofs.low_bytes.low_bytes.Given as goal

abbrev pub invariant-loop-i : goal.invariant-loop-i
invariant-loop-i l = l.bytes.items ≡ text_of (slice_range l.buffer.column.elements l.from l.i)
