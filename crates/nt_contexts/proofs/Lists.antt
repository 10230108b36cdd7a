-- Lists whose first element is taken, and beginnings of lists.
use Rattle.std.proofs.Common.{◌≡◌, ℕ, zero, suc, ◌<◌, List, [], ◌∷◌, ◌++◌, length, sym, ap, ◌∙◌, subst, append_assoc, arith}
use Rattle.std.specs.Prelude.{Some, slice_get, slice_index_or}
use Rattle.std.specs.List.{AllByRecursion, remove}
use mathlib.Core.List.{IsPrefix}

module _ {A : Type 0} where
  -- a list is its first element and what is left without it
  pub first_removed : (xs rest : List A) (x : A) → 0 < length xs → x ≡ slice_index_or xs 0 x → rest ≡ remove xs 0 → xs ≡ x ∷ rest
  first_removed [] rest x some is without = absurd (omega arith)
  first_removed (y ∷ ys) rest x some is without = ap (λ (z : A). z ∷ ys) (sym is) ∙ ap (λ (l : List A). x ∷ l) (sym without)

  pub All-snoc : (P : A → Type 0) (xs : List A) (x : A) → AllByRecursion P xs → P x → AllByRecursion P (xs ++ x ∷ [])
  All-snoc P [] x all here = (here, tt)
  All-snoc P (y ∷ ys) x all here = (all.0, All-snoc P ys x all.1 here)

  pub All-weaker : (P Q : A → Type 0) → ((x : A) → P x → Q x) → (xs : List A) → AllByRecursion P xs → AllByRecursion Q xs
  All-weaker P Q step [] all = tt
  All-weaker P Q step (x ∷ xs) all = (step x all.0, All-weaker P Q step xs all.1)

  pub All-at : (P : A → Type 0) (xs : List A) (k : ℕ) (x : A) → AllByRecursion P xs → slice_get xs k ≡ Some x → P x
  All-at P [] k x all at = cc
  All-at P (y ∷ ys) zero x all at = let same : y ≡ x = cc in subst P same all.0
  All-at P (y ∷ ys) (suc k) x all at = All-at P ys k x all.1 at

  -- a beginning of a beginning
  pub prefix-trans : (xs ys zs : List A) → IsPrefix xs ys → IsPrefix ys zs → IsPrefix xs zs
  prefix-trans xs ys zs p q = (p.0 ++ q.0, sym (append_assoc xs p.0 q.0) ∙ (ap (λ (l : List A). l ++ q.0) p.1 ∙ q.1))
