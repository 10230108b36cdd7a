-- what was given and what is left are all bytes
use Rattle.std.proofs.Common.{◌≡◌, ◌+◌, length}
use Rattle.nt_xxh3.specs.Pieces.{total_of}
use Rattle.nt_xxh3.proofs.tests.sum_in_pieces.Given as goal

abbrev pub invariant-loop-rest : goal.invariant-loop-rest
invariant-loop-rest l = total_of l.sum + length l.rest ≡ length l.bytes

abbrev pub decreases-loop-rest : goal.decreases-loop-rest
decreases-loop-rest l = length l.rest
