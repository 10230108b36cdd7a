-- The fault of a column, by its first element that isn't as it must be.
use Rattle.std.proofs.Common.{◌≡◌, ℕ, ◌<◌, ◌≤◌, ◌⊎◌, inl, inr, ◌==◌, nat_lt, if◌then◌else◌, List, length, Some, None, refl, ap, sym, ◌∙◌}
use Rattle.std.proofs.Common.{arith, map, get_or}
use Rattle.std.proofs.Math.ListN.{get_or-map}
use Rattle.std.proofs.lemmas.Bool.{lt-ltb, le-ltb, cases_lt}
use Rattle.nt_column.specs.Elements.{Element, plain}
use Rattle.nt_trees.specs.Columns.{Cols, number_at}
use Rattle.nt_trees.specs.Faults.{Demand, free, is_met, first_failing, spot_in, column_fault}
use Rattle.nt_trees.proofs.NoFault.{first_failing-none, first_failing-at}
use Rattle.nt_join.specs.Sweeps.{IsFirstUnmet}

first-unmet : (d : Demand) (es : List Element) (k first : ℕ) → IsFirstUnmet d es first
    → spot_in k (first_failing (is_met d es) (length es)) ≡ (if nat_lt first (length es) then Some (k, first) else None)
first-unmet d es k first u = go (cases_lt first (length es))
  where
    go : (first < length es) ⊎ (length es ≤ first)
        → spot_in k (first_failing (is_met d es) (length es)) ≡ (if nat_lt first (length es) then Some (k, first) else None)
    go (inl l) =
        ap (spot_in k) (first_failing-at (is_met d es) (length es) first l u.before (u.unmet l))
        ∙ sym (ap (λ b. if b then Some (k, first) else None) (lt-ltb first (length es) l))
    go (inr l) =
        ap (spot_in k) (first_failing-none (is_met d es) (length es) (λ i b. u.before i (omega (arith, b, l))))
        ∙ sym (ap (λ b. if b then Some (k, first) else None) (le-ltb first (length es) l))

-- the fault of a column
pub column_fault-first : (d : Demand) (cols : Cols) (k n first : ℕ) → IsFirstUnmet d (cols k) first
    → (if length (cols k) == n then (if nat_lt first (length (cols k)) then Some (k, first) else None) else Some (k, length (cols k)))
    ≡ column_fault d cols k n
column_fault-first d cols k n first u =
    ap (λ o. if length (cols k) == n then o else Some (k, length (cols k))) (sym (first-unmet d (cols k) k first u))

-- a column of values has no such element
pub IsFirstUnmet-free : (es : List Element) → IsFirstUnmet free es (length es)
IsFirstUnmet-free es = record { within = omega arith; before = λ i l. refl; unmet = λ l. absurd (omega (arith, l)) }

-- the number of an element that is one
pub number_at-plain : (ns : List ℕ) (i : ℕ) → number_at (map plain ns) i ≡ get_or ns i 0
number_at-plain ns i = ap (λ (e : Element). e.0) (get_or-map plain ns i 0)
