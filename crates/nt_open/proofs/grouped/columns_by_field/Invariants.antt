use Rattle.std.proofs.Common.{◌≡◌, ◌<◌, ℕ, take, vec_len}
use Rattle.nt_grammar.specs.Open.{columns_of_field}
use Rattle.nt_open.specs.Grouped.{items_at}
use Rattle.nt_open.proofs.grouped.columns_by_field.Given as goal

abbrev pub invariant-loop-column : goal.invariant-loop-column
invariant-loop-column l = record {
  count : vec_len l.lists ≡ l.fn.fields;
  each : (i : ℕ) → i < l.fn.fields → items_at l.lists.items i ≡ columns_of_field i (take l.column-index l.columns);
}
