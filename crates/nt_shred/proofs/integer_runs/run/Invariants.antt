use Rattle.std.proofs.Common.{length, ◌-◌}
use Rattle.nt_shred.proofs.RunOfIntegers.{RunSoFar}
use Rattle.nt_shred.proofs.integer_runs.run.Given as goal

abbrev pub invariant-loop-quick : goal.invariant-loop-quick
invariant-loop-quick l = RunSoFar l.bits l.signed l.line l.at l.i l.fn.column l.column

abbrev pub decreases-loop-quick : goal.decreases-loop-quick
decreases-loop-quick l = length l.line - l.i

abbrev pub invariant-loop-next : goal.invariant-loop-next
invariant-loop-next l = RunSoFar l.bits l.signed l.line l.at l.i l.fn.column l.column

abbrev pub decreases-loop-next : goal.decreases-loop-next
decreases-loop-next l = length l.line - l.i
