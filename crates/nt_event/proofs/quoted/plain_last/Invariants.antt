use Rattle.std.proofs.Common.{length, ◌-◌, ◌≤◌}
use Rattle.std.specs.List.{slice_range}
use Rattle.nt_event.specs.Plain.{AllPlain}
use Rattle.nt_event.proofs.quoted.plain_last.Given as goal

abbrev pub invariant-loop-i : goal.invariant-loop-i
invariant-loop-i l = record {
  low : l.at ≤ l.i;
  high : l.i ≤ length l.text;
  plain : AllPlain (slice_range l.text l.at l.i);
}

abbrev pub decreases-loop-i : goal.decreases-loop-i
decreases-loop-i l = length l.text - l.i
