-- Lists whose first element is taken.
use Rattle.std.proofs.Common.{◌≡◌, ℕ, zero, suc, ◌<◌, List, [], ◌∷◌, ◌++◌, length, sym, ap, ◌∙◌, refl, arith}
use Rattle.std.specs.Prelude.{slice_index_or}
use Rattle.std.specs.List.{AllByRecursion, remove}

module _ {A : Type 0} where
  -- a list is its first element and what is left without it
  pub first_removed : (xs rest : List A) (x : A) → 0 < length xs → x ≡ slice_index_or xs 0 x → rest ≡ remove xs 0 → xs ≡ x ∷ rest
  first_removed [] rest x some is without = absurd (omega arith)
  first_removed (y ∷ ys) rest x some is without = ap (λ (z : A). z ∷ ys) (sym is) ∙ ap (λ (l : List A). x ∷ l) (sym without)

  pub All-snoc : (P : A → Type 0) (xs : List A) (x : A) → AllByRecursion P xs → P x → AllByRecursion P (xs ++ x ∷ [])
  All-snoc P [] x all here = (here, tt)
  All-snoc P (y ∷ ys) x all here = (all.0, All-snoc P ys x all.1 here)

  pub All-weaker : (P Q : A → Type 0) → ((x : A) → P x → Q x) → (xs : List A) → AllByRecursion P xs → AllByRecursion Q xs
  All-weaker P Q step [] all = tt
  All-weaker P Q step (x ∷ xs) all = (step x all.0, All-weaker P Q step xs all.1)

  pub none_left : (xs : List A) → length xs ≡ 0 → xs ≡ []
  none_left [] e = refl
  none_left (x ∷ xs) e = absurd (omega (arith, e))

  -- what holds at each place holds of all
  pub All-each : (P : A → Type 0) (xs : List A) → ((i : ℕ) (d : A) → i < length xs → P (slice_index_or xs i d)) → AllByRecursion P xs
  All-each P [] each = tt
  All-each P (x ∷ xs) each = (each 0 x (omega arith), All-each P xs (λ i d h. each (suc i) d (omega (arith, h))))

  pub All-here : (P : A → Type 0) (xs : List A) → AllByRecursion P xs → (i : ℕ) (d : A) → i < length xs → P (slice_index_or xs i d)
  All-here P [] all i d h = absurd (omega (arith, h))
  All-here P (x ∷ xs) all zero d h = all.0
  All-here P (x ∷ xs) all (suc i) d h = All-here P xs all.1 i d (omega (arith, h))
