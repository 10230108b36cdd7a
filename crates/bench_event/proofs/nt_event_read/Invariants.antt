use Rattle.std.proofs.Common.{◌≤◌, length}
use Rattle.bench_event.proofs.nt_event_read.Given as goal

abbrev pub invariant-loop : goal.invariant-loop
invariant-loop l = l.found ≤ length l.text
