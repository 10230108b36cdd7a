-- the words so far are read
use Rattle.std.proofs.Common.{length, ◌≤◌, ◌-◌}
use Rattle.nt_encode.specs.Split.{split_value}
use Rattle.nt_encode.proofs.Lists.{Filled}
use Rattle.nt_encode.proofs.sixteens.take_eights.Given as goal

abbrev pub invariant-loop-i : goal.invariant-loop-i
invariant-loop-i l = (l.i ≤ length l.fn.out) × Filled l.out l.i (split_value 8 (length l.fn.out) l.bytes)

abbrev pub decreases-loop-i : goal.decreases-loop-i
decreases-loop-i l = length l.fn.out - l.i

abbrev pub invariant-loop-k : goal.invariant-loop-k
invariant-loop-k l = Filled l.out l.k (split_value 8 (length l.fn.out) l.bytes)
