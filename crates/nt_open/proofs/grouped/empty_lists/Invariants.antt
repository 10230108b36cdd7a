use Rattle.std.proofs.Common.{◌≡◌, ◌≤◌, ◌-◌, ℕ, [], vec_len}
use Rattle.nt_open.specs.Grouped.{items_at}
use Rattle.nt_open.proofs.grouped.empty_lists.Given as goal

abbrev pub invariant-loop-alloc : goal.invariant-loop-alloc
invariant-loop-alloc g l = record {
  count : vec_len l.lists ≤ l.count;
  empty : (i : ℕ) → items_at l.lists.items i ≡ [];
}

abbrev pub decreases-loop-alloc : goal.decreases-loop-alloc
decreases-loop-alloc g l = l.count - vec_len l.lists
