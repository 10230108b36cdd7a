use Rattle.std.proofs.Common.{true, length, ◌-◌}
use Rattle.nt_plans.specs.Plan.{maybe, number}
use Rattle.nt_shred.proofs.Walks.{SoFarAll}
use Rattle.nt_shred.proofs.optional.optional_integers.Given as goal

abbrev pub invariant-loop-next : goal.invariant-loop-next
invariant-loop-next l = SoFarAll (maybe l.ends (number l.of.column l.of.bits l.of.signed)) true l.line l.at l.i l.fn.out l.out

abbrev pub decreases-loop-next : goal.decreases-loop-next
decreases-loop-next l = length l.line - l.i
