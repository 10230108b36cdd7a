use Rattle.std.proofs.Common.{◌≡◌, ◌+◌, ◌≤◌, length, drop, vec_len, ℕ, slice_index_or}
use Rattle.nt_pagelists.specs.Columns.{least_first}
use Rattle.nt_meta.proofs.known.least_firsts.Given as goal

abbrev pub invariant-loop-done : goal.invariant-loop-done
invariant-loop-done l = record {
  count : l.count ≡ length l.columns;
  len : vec_len l.firsts ≡ length l.columns + 1;
  each : (j : ℕ) → length l.columns ≤ j + l.done → j ≤ length l.columns → slice_index_or l.firsts.items j 0
      ≡ least_first (drop j l.columns);
}
