use Rattle.std.proofs.Common.{length, ◌-◌, ◌≤◌}
use Rattle.bench_event.proofs.entries.Given as goal

abbrev pub invariant-loop-len : goal.invariant-loop-len
invariant-loop-len l = l.at ≤ length l.text

abbrev pub decreases-loop-len : goal.decreases-loop-len
decreases-loop-len l = length l.text - l.at
