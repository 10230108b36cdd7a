-- no byte so far is above the greatest
use Rattle.std.proofs.Common.{ℕ, ◌<◌, ◌≤◌, get_or}
use Rattle.nt_encode.proofs.split.are_zeros.Given as goal

abbrev pub invariant-loop-p : goal.invariant-loop-p
invariant-loop-p l = (k : ℕ) → l.from ≤ k → k < l.p → get_or l.bytes k 0 ≤ l.greatest
