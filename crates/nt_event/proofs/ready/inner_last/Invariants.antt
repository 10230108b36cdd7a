use Rattle.std.proofs.Common.{length, take, ◌-◌, ◌≤◌}
use Rattle.nt_event.specs.LineParts.{AllInner}
use Rattle.nt_event.proofs.ready.inner_last.Given as goal

abbrev pub invariant-loop-i : goal.invariant-loop-i
invariant-loop-i l = record {
  high : l.i ≤ length l.text;
  inner : AllInner (take l.i l.text);
}

abbrev pub decreases-loop-i : goal.decreases-loop-i
decreases-loop-i l = length l.text - l.i
