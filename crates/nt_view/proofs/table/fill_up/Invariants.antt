use Rattle.std.proofs.Common.{◌≡◌, ◌≤◌, ◌-◌, ℕ, length}
use Rattle.nt_view.specs.Table.{held_at}
use Rattle.nt_view.proofs.table.fill_up.Given as goal

abbrev pub invariant-loop-columns : goal.invariant-loop-columns
invariant-loop-columns l = record {
  same : (k : ℕ) → held_at l.columns.items k ≡ held_at l.initial.columns.items k;
  few : length l.initial.columns.items ≤ l.len → length l.columns.items ≤ l.len;
}

abbrev pub decreases-loop-columns : goal.decreases-loop-columns
decreases-loop-columns l = l.len - length l.columns.items
