use Rattle.std.proofs.Common.{◌≡◌, ◌≤◌, ◌++◌, ◌-◌, length, drop, take}
use Rattle.json.specs.Print.{escape}
use Rattle.nt_event.proofs.strings.put_escaped.Given as goal

abbrev pub invariant-loop-i : goal.invariant-loop-i
invariant-loop-i l = record {
  within : l.i ≤ length l.bytes;
  text : l.out.items ++ escape (drop l.i l.bytes) ≡ l.initial.out.items ++ escape l.bytes;
  kept : take (length l.initial.out.items) l.out.items ≡ l.initial.out.items;
}

abbrev pub decreases-loop-i : goal.decreases-loop-i
decreases-loop-i l = length l.bytes - l.i
