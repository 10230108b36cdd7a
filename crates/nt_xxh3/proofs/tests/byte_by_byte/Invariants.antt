-- the bytes so far were given
use Rattle.std.proofs.Common.{◌≡◌}
use Rattle.nt_xxh3.specs.Pieces.{total_of}
use Rattle.nt_xxh3.proofs.tests.byte_by_byte.Given as goal

abbrev pub invariant-loop-at : goal.invariant-loop-at
invariant-loop-at g l = total_of l.so_far ≡ l.at-counter
