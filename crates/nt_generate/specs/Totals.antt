-- The totals of contexts, by the order of the commits.
use Rattle.std.specs.Prelude.{ℕ, ◌-◌, ◌^◌, ◌==◌, min, cond, List, [], ◌∷◌, length, map}
use Rattle.std.specs.List.{sum_by, range_with_len}
use Rattle.nt_types.specs.TreeData.{TreesData}
use Rattle.nt_generate.specs.declared.total.Total.{Total}
use Rattle.nt_generate.specs.Numbers.{entries_sum}

-- what is counted stands still at the last number of its type
abbrev pub counted_to : ℕ → ℕ
counted_to n = min n (2 ^ 64 - 1)

-- the clusters of a context: those at whose places the order names it
abbrev pub named_clusters : {C : Type 0} → ℕ → List ℕ → List C → List C
named_clusters i [] clusters = []
named_clusters i (j ∷ order) [] = []
named_clusters i (j ∷ order) (c ∷ clusters) = cond (j == i) (c ∷ named_clusters i order clusters) (named_clusters i order clusters)

-- what clusters of these entries come to
abbrev pub context_total : List (List TreesData) → Total
context_total clusters = record {
  clusters = counted_to (length clusters);
  entries = counted_to (sum_by length clusters);
  sum = counted_to (sum_by entries_sum clusters);
}

-- the totals of so many contexts
abbrev pub totals_of : ℕ → List ℕ → List (List TreesData) → List Total
totals_of contexts order clusters = map (λ i. context_total (named_clusters i order clusters)) (range_with_len 0 contexts)
