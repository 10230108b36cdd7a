use Rattle.std.proofs.Common.{length, ◌-◌}
use Rattle.nt_digits.specs.Digits.{DigitsStand}
use Rattle.nt_digits.proofs.nineteen.digits_behind.Given as goal

abbrev pub invariant-loop-i : goal.invariant-loop-i
invariant-loop-i l = DigitsStand l.text l.at l.i l.n

abbrev pub decreases-loop-i : goal.decreases-loop-i
decreases-loop-i l = length l.text - l.i
