-- A deal that uses each element once has all elements, in another order.
use Rattle.std.proofs.Common.{◌≡◌, ◌∙◌, ap, sym, refl, subst, ℕ, suc, ◌<◌, ◌≤◌, List, [], ◌∷◌, ◌++◌}
use Rattle.std.proofs.Common.{length, take, drop, Some, arith, inl, inr}
use Rattle.std.specs.Prelude.{IsPermutation, slice_get, slice_index_or}
use Rattle.std.specs.List.{AllByRecursion, AllZip}
use Rattle.std.proofs.lemmas.Bool.{cases_lt}
use Rattle.std.proofs.lemmas.List.Sorted.{IsPermutation-refl, IsPermutation-trans, IsPermutation-cons, IsPermutation-middle}
use Rattle.nt_machine.specs.Deal.{times, Uses, IsDeal}
use Rattle.nt_dealing.proofs.Takings.{by_number, times-here, times-other, all_of, without, without-here, without-other}
use Rattle.nt_dealing.proofs.Takings.{seam, seam_permuted, past, all_empty}

module _ {C : Type 0} where
  -- the deal goes on without the first element of a list
  module _ (i : ℕ) (xss : List (List C)) (x : C) (xs : List C) (is : slice_index_or xss i [] ≡ x ∷ xs) where
    left_is : slice_index_or (without i xss) i [] ≡ xs
    left_is = without-here i xss ∙ ap (λ (l : List C). drop 1 l) is

    next_at : (l : List ℕ) (k : ℕ)
        → slice_get (slice_index_or xss k []) (times k (i ∷ l)) ≡ slice_get (slice_index_or (without i xss) k []) (times k l)
    next_at l =
        by_number
        (λ k. slice_get (slice_index_or xss k []) (times k (i ∷ l)) ≡ slice_get (slice_index_or (without i xss) k []) (times k l)) i
        (ap (λ (n : ℕ). slice_get (slice_index_or xss i []) n) (times-here i l)
        ∙ (ap (λ (o : List C). slice_get o (suc (times i l))) is ∙ ap (λ (o : List C). slice_get o (times i l)) (sym left_is)))
        (λ k differ.
        ap (λ (n : ℕ). slice_get (slice_index_or xss k []) n) (times-other k i l (λ same. differ (sym same)))
        ∙ ap (λ (o : List C). slice_get o (times k l)) (sym (without-other i k xss differ)))

    used_at : (l : List ℕ) → ((k : ℕ) → times k (i ∷ l) ≡ length (slice_index_or xss k [])) → (k : ℕ)
        → times k l ≡ length (slice_index_or (without i xss) k [])
    used_at l each =
        by_number (λ k. times k l ≡ length (slice_index_or (without i xss) k [])) i
        (let here : suc (times i l) ≡ suc (length xs) = sym (times-here i l) ∙ (each i ∙ ap (λ (o : List C). length o) is) in
        let one : times i l ≡ length xs = omega (arith, here) in one ∙ ap (λ (o : List C). length o) (sym left_is))
        (λ k differ.
        sym (times-other k i l (λ same. differ (sym same)))
        ∙ (each k ∙ ap (λ (o : List C). length o) (sym (without-other i k xss differ))))

  -- and what it deals first is the first element of its list
  pub deal_on : (i : ℕ) (order : List ℕ) (xss : List (List C)) (d : C) (ds : List C) (x : C) (xs : List C)
      → IsDeal xss (i ∷ order) (d ∷ ds) → slice_index_or xss i [] ≡ x ∷ xs → (x ≡ d) × IsDeal (without i xss) order ds
  deal_on i order xss d ds x xs deal is =
      let long = deal.long in
      let first : Some d ≡ slice_get (slice_index_or xss i []) 0 = deal.each 0 (omega arith) in
      let here : Some d ≡ Some x = first ∙ ap (λ (l : List C). slice_get l 0) is in (
        cc,
        record {
          long = omega (arith, long);
          each = λ j less.
              deal.each (suc j) (omega (arith, less)) ∙ next_at i xss x xs is (take j order) (slice_index_or order j 0);
        },
      )

module _ {C M : Type 0} (R : C → M → Type 0) where
  -- pairs with one pair more between them
  record Inserted (front back : List C) (x : C) (m : M) (ms : List M) : Type 0 where
    pub sorted : List M
    pub pairs : AllZip R (front ++ x ∷ back) sorted
    pub same : IsPermutation (m ∷ ms) sorted

  inserted : (front back : List C) (x : C) (m : M) (ms : List M) → AllZip R (front ++ back) ms → R x m → Inserted front back x m ms
  inserted [] back x m ms zip r = record { sorted = m ∷ ms; pairs = (r, zip); same = IsPermutation-refl (m ∷ ms) }
  inserted (y ∷ front) back x m [] zip r = absurd zip
  inserted (y ∷ front) back x m (n ∷ ms) zip r =
      let k = inserted front back x m ms zip.1 r in
      record {
        sorted = n ∷ k.sorted;
        pairs = (zip.0, k.pairs);
        same =
            IsPermutation-trans (m ∷ n ∷ ms) (n ∷ m ∷ ms) (n ∷ k.sorted) (IsPermutation-middle (m ∷ []) n ms)
            (IsPermutation-cons n (m ∷ ms) k.sorted k.same);
      }

  -- all elements in their order, each with what it was paired with in the deal
  pub record Undealt (xss : List (List C)) (dealt : List C) (ms : List M) : Type 0 where
    pub permuted : IsPermutation dealt (all_of xss)
    pub sorted : List M
    pub pairs : AllZip R (all_of xss) sorted
    pub same : IsPermutation ms sorted

  undealt : (order : List ℕ) (xss : List (List C)) (dealt : List C) (ms : List M)
      → ((k : ℕ) → times k order ≡ length (slice_index_or xss k []))
      → IsDeal xss order dealt → AllZip R dealt ms → Undealt xss dealt ms
  undealt [] xss [] [] each deal zip =
      let none : all_of xss ≡ [] = all_empty xss (λ i. sym (each i)) in
      record {
        permuted = subst (λ (l : List C). IsPermutation [] l) (sym none) (IsPermutation-refl []);
        sorted = [];
        pairs = subst (λ (l : List C). AllZip R l []) (sym none) tt;
        same = IsPermutation-refl [];
      }
  undealt [] xss [] (m ∷ ms) each deal zip = absurd zip
  undealt [] xss (d ∷ ds) ms each deal zip = let long = deal.long in absurd (omega (arith, long))
  undealt (i ∷ order) xss [] ms each deal zip = let long = deal.long in absurd (omega (arith, long))
  undealt (i ∷ order) xss (d ∷ ds) [] each deal zip = absurd zip
  undealt (i ∷ order) xss (d ∷ ds) (m ∷ ms) each deal zip =
      at (λ used next. undealt order (without i xss) ds ms used next zip.1) (slice_index_or xss i []) refl
    where
      first : Some d ≡ slice_get (slice_index_or xss i []) 0
      first = deal.each 0 (omega arith)

      at : (((k : ℕ) → times k order ≡ length (slice_index_or (without i xss) k [])) → IsDeal (without i xss) order ds
          → Undealt (without i xss) ds ms) → (own : List C) → slice_index_or xss i [] ≡ own → Undealt xss (d ∷ ds) (m ∷ ms)
      at on [] e = let here : Some d ≡ slice_get {X = C} [] 0 = first ∙ ap (λ (o : List C). slice_get o 0) e in cc
      at on (x ∷ xs) e =
          let go = deal_on i order xss d ds x xs deal e in
          let is : slice_index_or xss i [] ≡ d ∷ xs = e ∙ ap (λ (y : C). y ∷ xs) go.0 in
          let s = seam i xss d xs is in
          let rest = on (used_at i xss d xs is order each) go.1 in
          let more = inserted s.front s.back d m rest.sorted (subst (λ (l : List C). AllZip R l rest.sorted) s.left rest.pairs) zip.0 in
          record {
            permuted = IsPermutation-trans (d ∷ ds) (d ∷ all_of (without i xss)) (all_of xss)
                (IsPermutation-cons d ds (all_of (without i xss)) rest.permuted) (seam_permuted xss i d s);
            sorted = more.sorted;
            pairs = subst (λ (l : List C). AllZip R l more.sorted) (sym s.whole) more.pairs;
            same = IsPermutation-trans (m ∷ ms) (m ∷ rest.sorted) more.sorted (IsPermutation-cons m ms rest.sorted rest.same) more.same;
          }

  -- a number that is none of a list's stands in no order
  no_times : (k n : ℕ) (order : List ℕ) → AllByRecursion (λ i. i < n) order → n ≤ k → times k order ≡ 0
  no_times k n [] few behind = refl
  no_times k n (i ∷ order) few behind =
      let differ : i ≡ k → ⊥ = λ same. omega (arith, same, few.0, behind) in
      times-other k i order differ ∙ no_times k n order few.1 behind

  pub undealt_all : (order : List ℕ) (xss : List (List C)) (dealt : List C) (ms : List M) → Uses order xss → IsDeal xss order dealt
      → AllZip R dealt ms → Undealt xss dealt ms
  undealt_all order xss dealt ms uses deal zip = undealt order xss dealt ms each deal zip
    where
      each : (k : ℕ) → times k order ≡ length (slice_index_or xss k [])
      each k = elim (cases_lt k (length xss)) [
        | inl low ↦ uses.each k low
        | inr high ↦ no_times k (length xss) order uses.contexts high ∙ ap (λ (l : List C). length l) (sym (past k xss high))
      ]
