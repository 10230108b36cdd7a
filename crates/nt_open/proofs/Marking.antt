-- What is noted of columns, a column at a time.
use Rattle.std.proofs.Common.{ℕ, get_or, zero, suc, Bool, true, false, ◌≡◌, ◌≢◌, ◌<◌, ◌≤◌, List, [], ◌∷◌, ◌++◌, length, Option, Some, None}
use Rattle.std.proofs.Common.{◌==◌, refl, sym, ap, ◌∙◌, arith}
use Rattle.std.proofs.Math.ListN.{set}
use Rattle.std.proofs.lemmas.List.{length-set}
use Rattle.std.proofs.lemmas.Bool.{eq-eqb, ne_eqb, eqb-true, eqb-false, true≢false}
use Rattle.std.specs.Prelude.{not, option_map}
use Rattle.std.specs.Option.{option_or, is_some}
use Rattle.nt_open.specs.Uses.{principal_at, use_in, Use, use_view, use_at, Marks}
use Rattle.nt_open.specs.declared.uses.ColumnUse.{ColumnUse}

pub use_at-snoc : (us : List (Option ColumnUse)) → ((k : ℕ) → use_at us k ≡ None) → (k : ℕ) → use_at (us ++ None ∷ []) k ≡ None
use_at-snoc [] h zero = refl
use_at-snoc [] h (suc k) = refl
use_at-snoc (u ∷ us) h zero = h 0
use_at-snoc (u ∷ us) h (suc k) = use_at-snoc us (λ j. h (suc j)) k

use_at-here : (us : List (Option ColumnUse)) (k : ℕ) (u : ColumnUse) → k < length us → use_at (set us k (Some u)) k ≡ Some (use_view u)
use_at-here [] k u h = absurd (omega arith)
use_at-here (v ∷ us) zero u h = refl
use_at-here (v ∷ us) (suc k) u h = use_at-here us k u (omega arith)

use_at-there : (us : List (Option ColumnUse)) (j k : ℕ) (u : ColumnUse) → j ≢ k → use_at (set us k (Some u)) j ≡ use_at us j
use_at-there [] j k u h = refl
use_at-there (v ∷ us) zero zero u h = absurd (h refl)
use_at-there (v ∷ us) zero (suc k) u h = refl
use_at-there (v ∷ us) (suc j) zero u h = refl
use_at-there (v ∷ us) (suc j) (suc k) u h = use_at-there us j k u (λ e. h (ap suc e))

or-none : {A : Type 0} (o : Option A) → option_or o None ≡ o
or-none None = refl
or-none (Some x) = refl

or-some : {A : Type 0} (o other : Option A) → is_some o ≡ true → option_or o other ≡ o
or-some None other e = cc
or-some (Some x) other e = refl

or-or : {A : Type 0} (a b c : Option A) → option_or (option_or a b) c ≡ option_or a (option_or b c)
or-or None b c = refl
or-or (Some x) b c = refl

use_in-or : (top : ℕ) (a b : Option Bool) → use_in top (option_or a b) ≡ option_or (use_in top a) (use_in top b)
use_in-or top None b = refl
use_in-or top (Some x) b = refl

other-column : (top column k : ℕ) (up : Bool) → (k == column) ≡ false → use_in top (principal_at up column k) ≡ None
other-column top column k up e = rw e refl

own-column : (top column k : ℕ) (up : Bool) → (k == column) ≡ true → use_in top (principal_at up column k) ≡ Some (top, up)
own-column top column k up e = rw e refl

abbrev one_column : ℕ → ℕ → Bool → ℕ → Option Use
one_column top column up k = use_in top (principal_at up column k)

pub marks-set : (us : List (Option ColumnUse)) (column : ℕ) (u : ColumnUse) → column < length us → use_at us column ≡ None
    → Marks (one_column u.top column u.principal) us (set us column (Some u))
marks-set us column u h none = record { count = length-set us column (Some u); each = λ k few. one k (k == column) refl }
  where
    one : (k : ℕ) (b : Bool) → (k == column) ≡ b
        → use_at (set us column (Some u)) k ≡ option_or (use_at us k) (one_column u.top column u.principal k)
    one k true e =
        let is : k ≡ column = eqb-true k column e in
        rw (is, none) (use_at-here us column u h ∙ sym (own-column u.top column column u.principal (eq-eqb column column refl)))
    one k false e = use_at-there us k column u (eqb-false k column e)
        ∙ (sym (or-none (use_at us k)) ∙ ap (option_or (use_at us k)) (sym (other-column u.top column k u.principal e)))

pub marks-kept : (us : List (Option ColumnUse)) (column top : ℕ) (up : Bool) → is_some (use_at us column) ≡ true
    → Marks (one_column top column up) us us
marks-kept us column top up some = record { count = refl; each = λ k few. one k (k == column) refl }
  where
    one : (k : ℕ) (b : Bool) → (k == column) ≡ b → use_at us k ≡ option_or (use_at us k) (one_column top column up k)
    one k true e = sym (or-some (use_at us k) (one_column top column up k)
        (ap (λ (j : ℕ). is_some (use_at us j)) (eqb-true k column e) ∙ some))
    one k false e = sym (or-none (use_at us k)) ∙ ap (option_or (use_at us k)) (sym (other-column top column k up e))

pub marks-past : (us : List (Option ColumnUse)) (column top : ℕ) (up : Bool) → length us ≤ column
    → Marks (one_column top column up) us us
marks-past us column top up past = record {
  count = refl;
  each = λ k few. sym (or-none (use_at us k)) ∙ ap (option_or (use_at us k))
      (sym (other-column top column k up (ne_eqb k column (λ e. omega arith))));
}

-- what is noted after something else
pub marks-then : (f g h : ℕ → Option Bool) (top : ℕ) (a b c : List (Option ColumnUse)) → ((k : ℕ) → h k ≡ option_or (f k) (g k))
    → Marks (λ k. use_in top (f k)) a b → Marks (λ k. use_in top (g k)) b c → Marks (λ k. use_in top (h k)) a c
marks-then f g h top a b c e p q = record {
  count = q.count ∙ p.count;
  each = λ k few. q.each k (omega (arith, p.count))
      ∙ (ap (λ (o : Option Use). option_or o (use_in top (g k))) (p.each k few)
      ∙ (or-or (use_at a k) (use_in top (f k)) (use_in top (g k))
      ∙ ap (option_or (use_at a k)) (sym (use_in-or top (f k) (g k)) ∙ ap (use_in top) (sym (e k)))));
}

use_at-get : (us : List (Option ColumnUse)) (k : ℕ) → use_at us k ≡ option_map use_view (get_or us k None)
use_at-get [] k = refl
use_at-get (u ∷ us) zero = refl
use_at-get (u ∷ us) (suc k) = use_at-get us k

-- nothing is noted of a column
pub noted_none : (us : List (Option ColumnUse)) (k : ℕ) (free : Bool) → is_some (get_or us k None) ≡ not free → free ≡ true
    → use_at us k ≡ None
noted_none us k free e f = use_at-get us k ∙ one (get_or us k None) (e ∙ ap not f)
  where
    one : (o : Option ColumnUse) → is_some o ≡ false → option_map use_view o ≡ None
    one None h = refl
    one (Some u) h = absurd (true≢false h)

-- something is noted of it
pub noted_some : (us : List (Option ColumnUse)) (k : ℕ) (free : Bool) → is_some (get_or us k None) ≡ not free → free ≡ false
    → is_some (use_at us k) ≡ true
noted_some us k free e f = ap is_some (use_at-get us k) ∙ one (get_or us k None) (e ∙ ap not f)
  where
    one : (o : Option ColumnUse) → is_some o ≡ true → is_some (option_map use_view o) ≡ true
    one None h = h
    one (Some u) h = refl

-- what is kept of a column is read at its place
pub use_at_there : (us : List (Option ColumnUse)) (k : ℕ) (o : Option ColumnUse) → o ≡ get_or us k None
    → use_at us k ≡ option_map use_view o
use_at_there us k o is = use_at-get us k ∙ ap (option_map use_view) (sym is)

-- nothing is kept past the last column
pub use_at_past : (us : List (Option ColumnUse)) (k : ℕ) → length us ≤ k → use_at us k ≡ None
use_at_past [] k h = refl
use_at_past (u ∷ us) zero h = absurd (omega arith)
use_at_past (u ∷ us) (suc k) h = use_at_past us k (omega arith)
