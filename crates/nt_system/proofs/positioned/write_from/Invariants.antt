use Rattle.std.proofs.Common.{length, ◌≤◌}
use Rattle.nt_system.proofs.positioned.write_from.Given as goal

abbrev pub invariant-loop : goal.invariant-loop
invariant-loop g l = l.written ≤ length l.bytes
