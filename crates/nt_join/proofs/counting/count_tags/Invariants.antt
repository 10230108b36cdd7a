use Rattle.std.proofs.Common.{◌≡◌, ◌<◌, ◌≤◌, ◌+◌, ℕ, length, take, get_or}
use Rattle.nt_join.specs.Sweeps.{HasCounts}
use Rattle.nt_join.proofs.Counts.{IsFirstSoFar}
use Rattle.nt_join.proofs.counting.count_tags.Given as goal

abbrev pub invariant-loop-i : goal.invariant-loop-i
invariant-loop-i g l = record {
  same : length l.counts ≡ length l.initial.counts;
  counts : HasCounts l.low (take l.i (g.C.Columns.elements l.columns l.column)) l.counts;
  few : (t : ℕ) → t < length l.counts → get_or l.counts t 0 ≤ l.i;
  first : IsFirstSoFar l.most l.low (l.low + length l.initial.counts) l.i (g.C.Columns.elements l.columns l.column) l.first;
}
