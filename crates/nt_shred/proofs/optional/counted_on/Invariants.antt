use Rattle.std.proofs.Common.{◌-◌}
use Rattle.nt_shred.proofs.RunOfIntegers.{EndsSoFar}
use Rattle.nt_shred.proofs.optional.counted_on.Given as goal

abbrev pub invariant-loop-end : goal.invariant-loop-end
invariant-loop-end l = EndsSoFar l.bits l.before l.end l.last l.fn.column l.ends

abbrev pub decreases-loop-end : goal.decreases-loop-end
decreases-loop-end l = l.last - l.end
