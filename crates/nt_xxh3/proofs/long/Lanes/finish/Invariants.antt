-- the pairs so far are added
use Rattle.std.proofs.Common.{◌≡◌, ◌+◌, ◌*◌, ◌%◌, ◌^◌}
use Rattle.nt_xxh3.specs.Primes.{P64_1}
use Rattle.nt_xxh3.specs.Steps.{sum_below}
use Rattle.nt_xxh3.specs.Long.{folded}
use Rattle.nt_xxh3.proofs.long.Lanes.finish.Given as goal

abbrev pub invariant-loop-i : goal.invariant-loop-i
invariant-loop-i l = l.total ≡ (l.len * P64_1 + sum_below l.i (folded l.words)) % 2 ^ 64
