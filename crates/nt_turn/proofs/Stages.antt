-- The stages of views.
use Rattle.std.proofs.Common.{◌≡◌, ◌⊎◌, ⊎_elim, inl, inr, ℕ, zero, suc, List, [], ◌∷◌, ◌++◌, length, set, refl, ap, sym}
use mathlib.Core.Option.{some, some-injective, some-ne-none}
use lib.ListN.{get_elem?}
use Rattle.nt_turn.specs.declared.view.Stage.{Stage}
use Rattle.nt_turn.specs.declared.view.View.{View}
use Rattle.nt_turn.specs.View.{stages}

-- of a list with one more at its end
pub at_end : {A : Type 0} (l : List A) (a b : A) (j : ℕ) → get_elem? (l ++ a ∷ []) j ≡ some b → (get_elem? l j ≡ some b)
    ⊎ ((j ≡ length l) × (a ≡ b))
at_end [] a b zero e = inr (refl, some-injective a b e)
at_end [] a b (suc j) e = absurd (some-ne-none b (sym e))
at_end (x ∷ xs) a b zero e = inl e
at_end (x ∷ xs) a b (suc j) e = ⊎_elim (λ p. inl p) (λ p. inr (ap suc p.0, p.1)) (at_end xs a b j e)

module _ {E B : Type 0} where
  pub stages_set : (l : List (View E B)) (i : ℕ) (v : View E B) → stages (set l i v) ≡ set (stages l) i v.stage
  stages_set [] i v = refl
  stages_set (x ∷ xs) zero v = refl
  stages_set (x ∷ xs) (suc i) v = ap (λ l. x.stage ∷ l) (stages_set xs i v)

  pub stages_snoc : (l : List (View E B)) (v : View E B) → stages (l ++ v ∷ []) ≡ stages l ++ v.stage ∷ []
  stages_snoc [] v = refl
  stages_snoc (x ∷ xs) v = ap (λ l. x.stage ∷ l) (stages_snoc xs v)

  pub stage_at : (l : List (View E B)) (i : ℕ) (v : View E B) → get_elem? l i ≡ some v → get_elem? (stages l) i ≡ some v.stage
  stage_at [] i v e = absurd (some-ne-none v (sym e))
  stage_at (x ∷ xs) zero v e = ap (λ (w : View E B). some w.stage) (some-injective x v e)
  stage_at (x ∷ xs) (suc i) v e = stage_at xs i v e

  -- the view of a stage
  pub view_at : (l : List (View E B)) (i : ℕ) (s : Stage) → get_elem? (stages l) i ≡ some s
      → (v : View E B) × (get_elem? l i ≡ some v) × (v.stage ≡ s)
  view_at [] i s e = absurd (some-ne-none s (sym e))
  view_at (x ∷ xs) zero s e = (x, refl, some-injective x.stage s e)
  view_at (x ∷ xs) (suc i) s e = view_at xs i s e
