use Rattle.std.proofs.Common.{length, ◌-◌}
use Rattle.nt_event.specs.Standing.{BlanksStand}
use Rattle.nt_event.proofs.marks.after_blanks.Given as goal

abbrev pub invariant-loop-i : goal.invariant-loop-i
invariant-loop-i l = BlanksStand l.text l.at l.i

abbrev pub decreases-loop-i : goal.decreases-loop-i
decreases-loop-i l = length l.text - l.i
