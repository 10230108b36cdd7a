use Rattle.std.proofs.Common.{length, ◌-◌, ◌≤◌}
use Rattle.nt_event.specs.Plain.{StandsFor}
use Rattle.nt_event.proofs.quoted.escaped.Given as goal

abbrev pub invariant-loop-i : goal.invariant-loop-i
invariant-loop-i l = record {
  within : l.i ≤ length l.text;
  stands : StandsFor l.bytes.items l.text l.at l.i;
}

abbrev pub decreases-loop-i : goal.decreases-loop-i
decreases-loop-i l = length l.text - l.i
