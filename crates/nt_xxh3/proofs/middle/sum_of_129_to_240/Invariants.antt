-- the mixes so far are added
use Rattle.std.proofs.Common.{◌≡◌, ◌+◌, ◌*◌, ◌-◌, ◌%◌, ◌^◌, length}
use Rattle.nt_xxh3.specs.Primes.{P64_1}
use Rattle.nt_xxh3.specs.Steps.{sum_below, mix}
use Rattle.nt_xxh3.proofs.middle.sum_of_129_to_240.Given as goal

abbrev pub invariant-loop-i : goal.invariant-loop-i
invariant-loop-i l = l.first ≡ (length l.bytes * P64_1 + sum_below l.i (λ i. mix l.bytes (16 * i) (16 * i))) % 2 ^ 64

abbrev pub invariant-loop-i-2 : goal.invariant-loop-i-2
invariant-loop-i-2 l =
    l.total ≡ (l.initial.total + sum_below (l.i - 8) (λ j. mix l.bytes (16 * (8 + j)) (16 * j + 3))) % 2 ^ 64
