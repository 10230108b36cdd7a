use Rattle.std.proofs.Common.{◌≡◌, ◌<◌, ℕ, length, take, vec_len}
use Rattle.nt_grammar.specs.Open.{ids_inside}
use Rattle.nt_open.specs.Grouped.{items_at}
use Rattle.nt_open.proofs.grouped.ids_inside.Given as goal

abbrev pub invariant-loop-id : goal.invariant-loop-id
invariant-loop-id l = record {
  count : vec_len l.lists ≡ length l.fields;
  each : (i : ℕ) → i < length l.fields → items_at l.lists.items i ≡ ids_inside i 0 (take l.id l.fields);
}
