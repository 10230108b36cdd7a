-- The ranges of a context among the rows of a book, by number.
use Rattle.std.proofs.Common.{◌≡◌, ℕ, zero, suc, ◌+◌, ◌==◌, Bool, true, false, cond, List, [], ◌∷◌, ◌++◌, length, refl, sym, ap, ◌∙◌}
use Rattle.std.proofs.Common.{arith}
use Rattle.std.specs.Prelude.{filter}
use Rattle.std.specs.List.{flat_map}
use Rattle.std.proofs.lemmas.Bool.{eqb-false}
use Rattle.nt_machine.specs.Deal.{times}
use Rattle.nt_machine.specs.History.{own_of, numbers_of}
use Rattle.nt_machine.proofs.Histories.{not-eqb}
use Rattle.nt_book.specs.declared.state.RangeState.{RangeState}
use Rattle.nt_book.specs.declared.row.ClusterRow.{ClusterRow}
use Rattle.nt_book.specs.Entries.{row_cluster, row_clusters}
use Rattle.nt_book.specs.Keeping.{own_numbers, with_state}

-- they are numbered as the clusters of rows are
pub numbers-own : (m : ℕ) (rows : List ClusterRow) (i : ℕ) → numbers_of (own_of (row_clusters m rows) i) ≡ own_numbers m rows i
numbers-own m [] i = refl
numbers-own m (row ∷ rows) i = at (row.meta.context == i) (numbers-own (m + 1) rows i)
  where
    at : (b : Bool) → numbers_of (own_of (row_clusters (m + 1) rows) i) ≡ own_numbers (m + 1) rows i
        → numbers_of (cond b (row_cluster m row ∷ own_of (row_clusters (m + 1) rows) i) (own_of (row_clusters (m + 1) rows) i))
        ≡ cond b (m ∷ own_numbers (m + 1) rows i) (own_numbers (m + 1) rows i)
    at true rest = ap (λ (l : List ℕ). m ∷ l) rest
    at false rest = rest

-- the state of a row is no matter
pub own_numbers-with_state : (m : ℕ) (rows : List ClusterRow) (n : ℕ) (s : RangeState) (i : ℕ)
    → own_numbers m (with_state rows n s) i ≡ own_numbers m rows i
own_numbers-with_state m [] n s i = refl
own_numbers-with_state m (row ∷ rows) zero s i = refl
own_numbers-with_state m (row ∷ rows) (suc n) s i =
    ap (λ (l : List ℕ). cond (row.meta.context == i) (m ∷ l) l) (own_numbers-with_state (m + 1) rows n s i)

-- nor is a row of another context
pub own_numbers-append : (m : ℕ) (rows : List ClusterRow) (row : ClusterRow) (i : ℕ) → row.meta.context == i ≡ false
    → own_numbers m (rows ++ row ∷ []) i ≡ own_numbers m rows i
own_numbers-append m [] row i differ = ap (λ (b : Bool). cond b (m ∷ []) []) differ
own_numbers-append m (r ∷ rows) row i differ =
    ap (λ (l : List ℕ). cond (r.meta.context == i) (m ∷ l) l) (own_numbers-append (m + 1) rows row i differ)

pub flat-agree : (f g : ℕ → List ℕ) → ((i : ℕ) → f i ≡ g i) → (ps : List ℕ) → flat_map f ps ≡ flat_map g ps
flat-agree f g same [] = refl
flat-agree f g same (p ∷ ps) = ap (λ (l : List ℕ). l ++ flat_map f ps) (same p) ∙ ap (λ (l : List ℕ). g p ++ l) (flat-agree f g same ps)

pub other-way : (a b : ℕ) → a == b ≡ false → b == a ≡ false
other-way a b differ = not-eqb b a (λ is. eqb-false a b differ (sym is))

-- a number that stands nowhere is not the first one, and stands nowhere behind it
pub times-none : (i j : ℕ) (js : List ℕ) → times i (j ∷ js) ≡ 0 → (j == i ≡ false) × (times i js ≡ 0)
times-none i j js none = at (j == i) none
  where
    at : (b : Bool) → length (cond b (j ∷ filter (λ (k : ℕ). k == i) js) (filter (λ (k : ℕ). k == i) js)) ≡ 0
        → (b ≡ false) × (times i js ≡ 0)
    at true some = absurd (omega (arith, some))
    at false some = (refl, some)

-- a row of a context that didn't publish
pub flat-append : (rows : List ClusterRow) (row : ClusterRow) (ps : List ℕ) → times row.meta.context ps ≡ 0
    → flat_map (own_numbers 0 (rows ++ row ∷ [])) ps ≡ flat_map (own_numbers 0 rows) ps
flat-append rows row [] none = refl
flat-append rows row (p ∷ ps) none =
    let apart = times-none row.meta.context p ps none in
    ap (λ (l : List ℕ). l ++ flat_map (own_numbers 0 (rows ++ row ∷ [])) ps)
    (own_numbers-append 0 rows row p (other-way p row.meta.context apart.0))
    ∙ ap (λ (l : List ℕ). own_numbers 0 rows p ++ l) (flat-append rows row ps apart.1)
