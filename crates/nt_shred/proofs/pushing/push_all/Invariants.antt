use Rattle.std.proofs.Common.{map, take}
use Rattle.nt_column.specs.Elements.{plain}
use Rattle.nt_shred.proofs.Few.{AreAdded}
use Rattle.nt_shred.proofs.pushing.push_all.Given as goal

abbrev pub invariant-loop-byte : goal.invariant-loop-byte
invariant-loop-byte l = AreAdded (map plain (take l.byte-index l.bytes)) l.byte-index l.fn.buffer l.buffer
