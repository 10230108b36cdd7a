-- The entries of a cluster, added one after the other.
use Rattle.std.proofs.Common.{◌≡◌, ◌∙◌, ap, sym, ℕ, ◌+◌, ◌≤◌, List, [], ◌∷◌, ◌++◌, length, take, Some, arith}
use Rattle.std.specs.Prelude.{slice_get, get_or}
use Rattle.std.proofs.lemmas.List.{length-map, set_past, take_all, take_more}
use Rattle.std.proofs.lemmas.Option.{slice_get_within, get_or_from_slice_get}
use Rattle.std.proofs.lemmas.List.Sums.{sum_by_push}
use Rattle.std.proofs.lemmas.List.FromFn.{length-range_with_len}
use Rattle.nt_types.specs.TreeData.{TreesData}
use Rattle.nt_reader.specs.Columns.{ClusterData, given_entries}
use Rattle.nt_generate.specs.Numbers.{entry_sum, entries_sum}
use Rattle.nt_generate.specs.declared.total.Total.{Total}
use Rattle.nt_generate.specs.Totals.{counted_to}
use Rattle.nt_generate.specs.Adding.{empty_total, with_cluster, with_cluster_at}

-- a cluster gives as many entries as it has
pub length-given : (c : ClusterData) → length (given_entries c) ≡ c.entries
length-given c = length-map _ _ ∙ length-range_with_len 0 c.entries

take_get : (xs : List TreesData) (i : ℕ) (x : TreesData) → slice_get xs i ≡ Some x → take (i + 1) xs ≡ take i xs ++ x ∷ []
take_get xs i x is =
    take_more xs i x (slice_get_within xs i x is) ∙ ap (λ (y : TreesData). take i xs ++ y ∷ []) (get_or_from_slice_get xs i x x is)

pub sum-next : (entries : List TreesData) (i : ℕ) (entry : TreesData) (sum total next : ℕ) → slice_get entries i ≡ Some entry
    → total ≡ counted_to (sum + entries_sum (take i entries)) → next ≡ counted_to (total + entry_sum entry)
    → (next ≡ counted_to (sum + entries_sum (take (i + 1) entries)))
sum-next entries i entry sum total next there is next_is =
    let more : entries_sum (take (i + 1) entries) ≡ entries_sum (take i entries) + entry_sum entry =
    ap entries_sum (take_get entries i entry there) ∙ sum_by_push entry_sum (take i entries) entry in
    omega (arith, more, is, next_is)

pub sum-whole : (entries : List TreesData) (i sum total : ℕ) → length entries ≤ i
    → total ≡ counted_to (sum + entries_sum (take i entries)) → total ≡ counted_to (sum + entries_sum entries)
sum-whole entries i sum total past is = is ∙ ap (λ (l : List TreesData). counted_to (sum + entries_sum l)) (take_all i entries past)

-- a context without a total stays without one
pub no_total : (context : ℕ) (entries : List TreesData) (totals : List Total) → length totals ≤ context
    → totals ≡ with_cluster_at context entries totals
no_total context entries totals past = sym (set_past totals context (with_cluster entries (get_or totals context empty_total)) past)
