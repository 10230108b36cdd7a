-- The totals of clusters with one cluster more.
use Rattle.std.proofs.Common.{◌≡◌, ◌∙◌, ap, sym, refl, ℕ, ◌<◌, ◌==◌, Bool, true, false, cond, List, [], ◌∷◌, ◌++◌, length}
use Rattle.std.proofs.Common.{get_or, replicate, Option, Some, None, arith, append-nil, length-append}
use Rattle.std.specs.Prelude.{slice_get}
use Rattle.std.specs.List.{sum_by}
use Rattle.std.proofs.lemmas.Bool.{eqb-true, eqb-false}
use Rattle.std.proofs.lemmas.List.{same_lists, length-set, get_or-set_same, get_or-set_other, get_or-replicate, length-replicate}
use Rattle.std.proofs.lemmas.List.Sums.{sum_by_push}
use Rattle.std.proofs.lemmas.List.FromFn.{length-map-range_with_len, get_or-map-range_with_len}
use Rattle.nt_types.specs.TreeData.{TreesData}
use Rattle.nt_generate.specs.declared.total.Total.{Total}
use Rattle.nt_generate.specs.Numbers.{entries_sum}
use Rattle.nt_generate.specs.Totals.{counted_to, named_clusters, context_total, totals_of}
use Rattle.nt_generate.proofs.Sums.{same_total}
use Rattle.nt_generate.specs.Adding.{empty_total, with_cluster, with_named}
use Rattle.nt_generate.proofs.Counting.{counted_to-add}

-- a cluster, where it is of this context
abbrev one_if_named : {C : Type 0} → ℕ → Option ℕ → C → List C
one_if_named i (Some j) c = cond (j == i) (c ∷ []) []
one_if_named i None c = []

named_clusters-nil : {C : Type 0} (i : ℕ) (order : List ℕ) → named_clusters {C = C} i order [] ≡ []
named_clusters-nil i [] = refl
named_clusters-nil i (j ∷ order) = refl

named_clusters-push : {C : Type 0} (i : ℕ) (order : List ℕ) (clusters : List C) (c : C)
    → named_clusters i order (clusters ++ c ∷ []) ≡ named_clusters i order clusters ++ one_if_named i (slice_get order (length clusters)) c
named_clusters-push i [] clusters c = refl
named_clusters-push i (j ∷ order) [] c = ap (λ (l : List _). cond (j == i) (c ∷ l) l) (named_clusters-nil i order)
named_clusters-push {C} i (j ∷ order) (d ∷ clusters) c = at (j == i) (named_clusters-push i order clusters c)
  where
    at : (b : Bool) → named_clusters i order (clusters ++ c ∷ [])
        ≡ named_clusters i order clusters ++ one_if_named i (slice_get order (length clusters)) c
        → cond b (d ∷ named_clusters i order (clusters ++ c ∷ [])) (named_clusters i order (clusters ++ c ∷ []))
        ≡ cond b (d ∷ named_clusters i order clusters) (named_clusters i order clusters)
        ++ one_if_named i (slice_get order (length clusters)) c
    at true rest = ap (λ (l : List C). d ∷ l) rest
    at false rest = rest

context_total-push : (clusters : List (List TreesData)) (c : List TreesData)
    → context_total (clusters ++ c ∷ []) ≡ with_cluster c (context_total clusters)
context_total-push clusters c =
    let one = length-append clusters (c ∷ []) in
    let two = sum_by_push length clusters c in
    let three = sum_by_push entries_sum clusters c in
    same_total _ _ _ _ _ _
    (ap counted_to one ∙ sym (counted_to-add (length clusters) 1))
    (ap counted_to two ∙ sym (counted_to-add (sum_by length clusters) (length c)))
    (ap counted_to three ∙ sym (counted_to-add (sum_by entries_sum clusters) (entries_sum c)))

pub totals-at : (contexts : ℕ) (order : List ℕ) (clusters : List (List TreesData)) (i : ℕ) (d : Total) → i < contexts
    → get_or (totals_of contexts order clusters) i d ≡ context_total (named_clusters i order clusters)
totals-at contexts order clusters i d less =
    get_or-map-range_with_len (λ i. context_total (named_clusters i order clusters)) 0 contexts i i d less (omega arith)

pub length-totals_of : (contexts : ℕ) (order : List ℕ) (clusters : List (List TreesData)) → length (totals_of contexts order clusters)
    ≡ contexts
length-totals_of contexts order clusters = length-map-range_with_len (λ i. context_total (named_clusters i order clusters)) 0 contexts

pub totals_of-nil : (contexts : ℕ) (order : List ℕ) → replicate contexts empty_total ≡ totals_of contexts order []
totals_of-nil contexts order =
    let long = length-replicate contexts empty_total in
    same_lists (replicate contexts empty_total) (totals_of contexts order []) (long ∙ sym (length-totals_of contexts order []))
    (λ i d less.
    let there : i < contexts = omega (arith, less, long) in
    get_or-replicate contexts i empty_total d there
    ∙ sym (totals-at contexts order [] i d there ∙ ap context_total (named_clusters-nil i order)))

module _ (contexts : ℕ) (order : List ℕ) (before : List (List TreesData)) (c : List TreesData) where
  abbrev old : List Total
  old = totals_of contexts order before

  -- the total of a context, by the one that is named for the cluster
  next-at : (n : Option ℕ) → slice_get order (length before) ≡ n → (i : ℕ) (d : Total) → i < contexts
      → get_or (with_named n c old) i d ≡ context_total (named_clusters i order before ++ one_if_named i n c)
  next-at None is i d less =
      totals-at contexts order before i d less ∙ ap context_total (sym (append-nil (named_clusters i order before)))
  next-at (Some j) is i d less = at (j == i) refl
    where
      at : (b : Bool) → (j == i) ≡ b
          → get_or (with_named (Some j) c old) i d ≡ context_total (named_clusters i order before ++ cond b (c ∷ []) [])
      at true same =
          let same_place : j ≡ i = eqb-true j i same in
          ap (λ (k : ℕ). get_or (with_named (Some k) c old) i d) same_place
          ∙ (get_or-set_same old i (with_cluster c (get_or old i empty_total)) d
          (let long = length-totals_of contexts order before in omega (arith, less, long))
          ∙ (ap (with_cluster c) (totals-at contexts order before i empty_total less)
          ∙ sym (context_total-push (named_clusters i order before) c)))
      at false differ =
          get_or-set_other old j i (with_cluster c (get_or old j empty_total)) d (λ same. eqb-false j i differ (sym same))
          ∙ (totals-at contexts order before i d less ∙ ap context_total (sym (append-nil (named_clusters i order before))))

  length-with_named : (n : Option ℕ) → length (with_named n c old) ≡ contexts
  length-with_named None = length-totals_of contexts order before
  length-with_named (Some j) =
      length-set old j (with_cluster c (get_or old j empty_total)) ∙ length-totals_of contexts order before

  pub totals_of-push : with_named (slice_get order (length before)) c old ≡ totals_of contexts order (before ++ c ∷ [])
  totals_of-push =
      let n = slice_get order (length before) in
      let long = length-with_named n in
      same_lists (with_named n c old) (totals_of contexts order (before ++ c ∷ []))
      (long ∙ sym (length-totals_of contexts order (before ++ c ∷ [])))
      (λ i d less.
      let there : i < contexts = omega (arith, less, long) in
      next-at n refl i d there
      ∙ sym (totals-at contexts order (before ++ c ∷ []) i d there ∙ ap context_total (named_clusters-push i order before c)))
