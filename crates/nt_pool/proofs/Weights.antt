-- The weights of jobs, and lists of passes of which one changes.
use Rattle.std.proofs.Common.{◌≡◌, ◌≢◌, ℕ, zero, suc, ◌+◌, ◌≤◌, List, [], ◌∷◌, ◌++◌, length, set, sym, refl, ap, ◌∙◌, subst}
use Rattle.std.proofs.Common.{⊎_elim, arith}
use Rattle.std.specs.List.{AllByRecursion}
use Rattle.std.specs.Mem.{manually_drop_value}
use Rattle.std.specs.declared.mem.ManuallyDrop.{ManuallyDrop}
use mathlib.Core.Option.{some, some-ne-none, some-injective}
use lib.ListN.{get_elem?}
use Rattle.crossbeam_queue.proofs.Lists.{at_set, at_snoc, at_longer, at_last, set_else}
use Rattle.nt_pool.specs.declared.rule.Hand.{Hand}
use Rattle.nt_pool.specs.Rule.{all_parts, hand, weigh, total, waiting, IsOf}

module _ {J : Type 0} where
  pub weigh-append : (f : J → ℕ) (xs ys : List J) → weigh f (xs ++ ys) ≡ weigh f xs + weigh f ys
  weigh-append f [] ys = omega arith
  weigh-append f (x ∷ xs) ys = let e = weigh-append f xs ys in omega (arith, e)

  pub waiting-append : (xs ys : List (ManuallyDrop J)) → waiting (xs ++ ys) ≡ waiting xs ++ waiting ys
  waiting-append [] ys = refl
  waiting-append (x ∷ xs) ys = ap (λ l. manually_drop_value x ∷ l) (waiting-append xs ys)

  pub ones : (xs : List J) → weigh (λ j. 1) xs ≡ length xs
  ones [] = refl
  ones (x ∷ xs) = let e = ones xs in omega (arith, e)

  -- the total after a change of one pass
  pub total_set : (f : Hand J → ℕ) (views : List (Hand J)) (port : ℕ) (v w : Hand J) → get_elem? views port ≡ some v
      → total f (set views port w) + f v ≡ total f views + f w
  total_set f [] port v w e = absurd (some-ne-none v (sym e))
  total_set f (x ∷ xs) zero v w e = let same = ap f (some-injective x v e) in omega (arith, same)
  total_set f (x ∷ xs) (suc i) v w e = let h = total_set f xs i v w e in omega (arith, h)

  pub total-append : (f : Hand J → ℕ) (xs ys : List (Hand J)) → total f (xs ++ ys) ≡ total f xs + total f ys
  total-append f [] ys = omega arith
  total-append f (x ∷ xs) ys = let e = total-append f xs ys in omega (arith, e)

  pub part_below : (f : Hand J → ℕ) (views : List (Hand J)) (port : ℕ) (v : Hand J) → get_elem? views port ≡ some v → f v ≤ total f views
  part_below f [] port v e = absurd (some-ne-none v (sym e))
  part_below f (x ∷ xs) zero v e = let same = ap f (some-injective x v e) in omega (arith, same)
  part_below f (x ∷ xs) (suc i) v e = let h = part_below f xs i v e in omega (arith, h)

  pub total_none : (f : Hand J → ℕ) (views : List (Hand J)) → ((port : ℕ) (v : Hand J) → get_elem? views port ≡ some v → f v ≡ 0)
      → total f views ≡ 0
  total_none f [] all = refl
  total_none f (x ∷ xs) all = let here = all 0 x refl in let there = total_none f xs (λ i v e. all (suc i) v e) in omega
      (arith, here, there)

  -- with all parts in one hand, no other pass has any
  pub others_idle : (views : List (Hand J)) (port : ℕ) (v : Hand J) → total (λ u. u.parts) views ≡ all_parts → get_elem? views port ≡ some v
      → v.parts ≡ all_parts
      → (j : ℕ) (u : Hand J) → j ≢ port → get_elem? views j ≡ some u → u.parts ≡ 0
  others_idle views port v sum at all j u other e =
      let w : Hand J = hand 0 [] [] in
      let s = total_set (λ u. u.parts) views port v w at in
      let below = part_below (λ u. u.parts) (set views port w) j u (set_else views port j w other ∙ e) in
      omega (arith, sum, all, s, below)

  abbrev pub Each : (ℕ → Hand J → Type 0) → List (Hand J) → Type 0
  Each F views = (port : ℕ) (v : Hand J) → get_elem? views port ≡ some v → F port v

  pub each_set : (F : ℕ → Hand J → Type 0) (views : List (Hand J)) (port : ℕ) (w : Hand J) → F port w
      → ((j : ℕ) (u : Hand J) → j ≢ port → get_elem? views j ≡ some u → F j u) → Each F (set views port w)
  each_set F views port w mine others j u e = ⊎_elim (λ (x : (j ≡ port) × (w ≡ u)). subst (λ (y : ℕ × Hand J). F y.0 y.1)
      (λ i. (sym x.0 i, x.1 i)) mine)
      (λ (x : (j ≢ port) × (get_elem? views j ≡ some u)). others j u x.0 x.1) (at_set views port j w u e)

  pub each_snoc : (P : Hand J → Type 0) (views : List (Hand J)) (w : Hand J) → P w → Each (λ j u. P u) views
      → Each (λ j u. P u) (views ++ w ∷ [])
  each_snoc P views w mine others j u e = ⊎_elim (λ (x : get_elem? views j ≡ some u). others j u x) (λ (x : w ≡ u). subst P x mine)
      (at_snoc views w u j e)

  pub all-append : (P : J → Type 0) (xs ys : List J) → AllByRecursion P xs → AllByRecursion P ys → AllByRecursion P (xs ++ ys)
  all-append P [] ys a b = b
  all-append P (x ∷ xs) ys a b = (a.0, all-append P xs ys a.1 b)

  pub all-weaker : (P Q : J → Type 0) (xs : List J) → ((j : J) → P j → Q j) → AllByRecursion P xs → AllByRecursion Q xs
  all-weaker P Q [] f a = tt
  all-weaker P Q (x ∷ xs) f a = (f x a.0, all-weaker P Q xs f a.1)

  pub of-longer : (all : List J) (x j : J) → IsOf all j → IsOf (all ++ x ∷ []) j
  of-longer all x j is = (is.0, at_longer all (x ∷ []) is.0 j is.1)

  pub of-last : (all : List J) (x : J) → IsOf (all ++ x ∷ []) x
  of-last all x = (length all, at_last all x (length all) refl)
