use Rattle.std.proofs.Common.{drop}
use Rattle.std.specs.Prelude.{IsTrue}
use Rattle.nt_print.specs.Simple.{AllSimple}
use Rattle.nt_print.proofs.simple.are_simple.Given as goal

abbrev pub invariant-loop-byte : goal.invariant-loop-byte
invariant-loop-byte l = IsTrue l.all → AllSimple (drop l.byte-index l.bytes) → AllSimple l.bytes
