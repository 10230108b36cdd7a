use Rattle.std.proofs.Common.{◌≡◌, ◌<◌, ℕ, take, vec_len}
use Rattle.nt_plans.specs.Place.{column_ids}
use Rattle.nt_open.specs.Grouped.{items_at}
use Rattle.nt_open.proofs.grouped.column_ids.Given as goal

abbrev pub invariant-loop-id : goal.invariant-loop-id
invariant-loop-id l = record {
  count : vec_len l.lists ≡ l.fn.fields;
  each : (i : ℕ) → i < l.fn.fields → items_at l.lists.items i ≡ column_ids i 0 (take l.id l.columns);
}
