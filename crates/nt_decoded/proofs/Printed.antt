-- The lines of the entries that a cluster gives.
use Rattle.std.proofs.Common.{◌≡◌, ℕ, zero, suc, ◌+◌, ◌-◌, ◌<◌, ◌≤◌, List, [], ◌∷◌, ◌++◌, take, drop, get_or, length, refl, sym, ap}
use Rattle.std.proofs.Common.{◌∙◌, arith, Result, Ok, Err}
use Rattle.std.specs.Prelude.{IfOk}
use Rattle.std.specs.List.{flat_map, slice_range}
use Rattle.std.proofs.lemmas.List.{drop_more}
use Rattle.nt_types.specs.TreeData.{TreesData, no_trees}
use Rattle.nt_event.specs.Json.{line_of}
use Rattle.nt_plans.specs.Place.{open_plans}
use Rattle.nt_trees.specs.TreeAt.{each_at}
use Rattle.nt_file_meaning.specs.Clusters.{columns_by_id}
use Rattle.nt_lines.specs.Lines.{written_lines}
use Rattle.nt_reader.specs.Columns.{ClusterData, given_entries}
use Rattle.nt_reader.proofs.Entries.{entry-is, length-given}

-- two facts of an answer that is Ok
pub ok-both : {A E : Type 0} (r : Result A E) (P Q R : A → Type 0) → IfOk r P → IfOk r Q → ((a : A) → P a → Q a → R a) → IfOk r R
ok-both (Ok a) P Q R p q give = give a p q
ok-both (Err e) P Q R p q give = tt

-- so many lines from an entry on
lines-listed : (f : ℕ → TreesData) (entries : List TreesData) (n i : ℕ)
    → ((k : ℕ) → k < length entries → get_or entries k no_trees ≡ f k) → i + n ≤ length entries
    → written_lines f i n ≡ flat_map (λ entry. line_of entry ++ 10 ∷ []) (take n (drop i entries))
lines-listed f entries zero i each within = refl
lines-listed f entries (suc n) i each within =
    let lines : List TreesData → List ℕ = flat_map (λ entry. line_of entry ++ 10 ∷ []) in
    let next : drop i entries ≡ get_or entries i no_trees ∷ drop (i + 1) entries = drop_more entries i no_trees (omega (arith, within)) in
    let place : suc i ≡ i + 1 = omega arith in
    ap (λ (l : List ℕ). (line_of (f i) ++ 10 ∷ []) ++ l)
    (lines-listed f entries n (suc i) each (omega (arith, within)) ∙ ap (λ (k : ℕ). lines (take n (drop k entries))) place)
    ∙ ap (λ (e : TreesData). (line_of e ++ 10 ∷ []) ++ lines (take n (drop (i + 1) entries))) (sym (each i (omega (arith, within))))
    ∙ sym (ap (λ (es : List TreesData). lines (take (suc n) es)) next)

pub lines-given : (c seen : ClusterData) (from next : ℕ) → c ≡ seen → from ≤ next → next ≤ seen.entries
    → written_lines (each_at (open_plans c.table) (columns_by_id c.columns)) from (next - from)
    ≡ flat_map (λ entry. line_of entry ++ 10 ∷ []) (slice_range (given_entries seen) from next)
lines-given c seen from next is order within =
    lines-listed (each_at (open_plans c.table) (columns_by_id c.columns)) (given_entries seen) (next - from) from
    (λ k less. entry-is c seen k is (omega (arith, less, length-given seen))) (omega (arith, order, within, length-given seen))
