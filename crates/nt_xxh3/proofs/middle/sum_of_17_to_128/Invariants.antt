-- the pairs so far are added
use Rattle.std.proofs.Common.{◌≡◌, ◌+◌, ◌*◌, ◌%◌, ◌^◌, length}
use Rattle.nt_xxh3.specs.Primes.{P64_1}
use Rattle.nt_xxh3.specs.Steps.{sum_below}
use Rattle.nt_xxh3.specs.Middle.{pair}
use Rattle.nt_xxh3.proofs.middle.sum_of_17_to_128.Given as goal

abbrev pub invariant-loop-i : goal.invariant-loop-i
invariant-loop-i l = l.total ≡ (length l.bytes * P64_1 + sum_below l.i (pair l.bytes)) % 2 ^ 64
