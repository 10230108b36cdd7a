-- Totals of what is kept of columns.
use Rattle.std.proofs.Common.{◌≡◌, ℕ, ◌+◌, ◌^◌, ◌<◌, ◌≤◌, List, [], ◌∷◌, ◌++◌, map, length, get_or, refl, sym, ap, subst, ◌∙◌}
use Rattle.std.proofs.Common.{inl, inr, arith}
use Rattle.std.proofs.lemmas.Bool.{cases_lt}
use Rattle.std.proofs.lemmas.List.{length-append, get_or_append_left, get_or_at, get_or_default}
use Rattle.nt_encode.specs.Elements.{Element, numbers, AreElementsOf}
use Rattle.nt_grammar.specs.Table.{Table}
use Rattle.nt_total.specs.declared.running.Running.{Running}
use Rattle.nt_total.specs.declared.total.Total.{Total}
use Rattle.nt_total.specs.Running.{IsSoFar}
use Rattle.nt_total.specs.Totals.{low_of, integer_in, IsTotalOf}
use Rattle.nt_scan.specs.Leaves.{column_kind}
use Rattle.nt_scan.specs.Steps.{AreNothing, AreTotalled}

-- the total of what is kept
abbrev pub Totals_it : Table → ℕ → Running → Total → Type 0
Totals_it t column r x =
    (es : List Element) → IsSoFar (numbers es) (low_of (column_kind t column)) r → AreElementsOf (column_kind t column) es
    → length es ≤ 2 ^ 60 → IsTotalOf (map (integer_in (column_kind t column)) (numbers es)) x

-- the first columns are totalled
pub record ArePartTotalled (t : Table) (columns : List ℕ) (running : List Running) (i : ℕ) (totals : List Total) : Type 0 where
  pub len : length totals ≡ i
  pub each : (k d : ℕ) (e : Running) (f : Total) → k < i → Totals_it t (get_or columns k d) (get_or running k e) (get_or totals k f)

pub totalled-more : (t : Table) (columns : List ℕ) (running : List Running) (i : ℕ) (totals more : List Total) (x : Total) (d0 : ℕ)
    (e0 : Running)
    → i < length columns → length running ≡ length columns → more ≡ totals ++ x ∷ []
    → Totals_it t (get_or columns i d0) (get_or running i e0) x
    → ArePartTotalled t columns running i totals → ArePartTotalled t columns running (i + 1) more
totalled-more t columns running i totals more x d0 e0 lt same is one h =
    rw is (record {
      len = length-append totals (x ∷ []) ∙ omega (arith, h.len);
      each = λ k d e f below. elim (cases_lt k i) [
        | inl low ↦ rw (get_or_append_left totals (x ∷ []) f k (omega (arith, low, h.len))) (h.each k d e f low)
        | inr high ↦
            let here : k ≡ i = omega (arith, below, high) in
            rw (
              here,
              get_or_at totals x [] f i h.len,
              get_or_default columns i d d0 lt,
              get_or_default running i e e0 (omega
                  (arith, lt, same)),
            ) one
      ];
    })

pub totalled-all : (t : Table) (columns : List ℕ) (running : List Running) (i : ℕ) (totals : List Total) → length columns ≤ i
    → i ≤ length columns → ArePartTotalled t columns running i totals → AreTotalled t columns running totals
totalled-all t columns running i totals past few h = record {
  len = omega (arith, h.len, past, few);
  each = λ k d e f es lt so_far are short. h.each k d e f (omega (arith, lt, past)) es so_far are short;
}

-- one more of which nothing is kept
pub nothing-more : (n : ℕ) (running more : List Running) (r : Running) → ((low : ℕ) → IsSoFar [] low r) → more ≡ running ++ r ∷ []
    → AreNothing n running → AreNothing (n + 1) more
nothing-more n running more r none is h =
    rw is (record {
      len = length-append running (r ∷ []) ∙ omega (arith, h.len);
      each = λ k low e below. elim (cases_lt k n) [
        | inl lt ↦ rw (get_or_append_left running (r ∷ []) e k (omega (arith, lt, h.len))) (h.each k low e lt)
        | inr ge ↦
            let here : k ≡ n = omega (arith, below, ge) in
            rw (here, get_or_at running r [] e n h.len) (none low)
      ];
    })
