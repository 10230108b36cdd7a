use Rattle.std.proofs.Common.{◌≡◌, ◌++◌, take, drop}
use Rattle.nt_outside.specs.Range.{without}
use Rattle.nt_outside.proofs.range.place_of.Given as goal

abbrev pub invariant-loop-i : goal.invariant-loop-i
invariant-loop-i l = without l.range l.out ≡ take l.i l.out ++ without l.range (drop l.i l.out)
