-- The columns of the fields that are added, by the ids of these fields.
use Rattle.std.proofs.Common.{◌≡◌, ℕ, zero, suc, ◌+◌, ◌<◌, ◌≤◌, ◌==◌, Bool, true, false, List, [], ◌∷◌, ◌++◌, get_or, Some, slice_get}
use Rattle.std.proofs.Common.{if◌then◌else◌, refl, ap, ◌∙◌, add-zero, append-nil, arith}
use Rattle.std.proofs.lemmas.Bool.Decides.{nat_tests}
use Rattle.std.specs.List.{AllByRecursion}
use Rattle.nt_types.specs.declared.column_type.ColumnType.{ColumnType}
use Rattle.nt_grammar.specs.declared.rows.ColumnRow.{ColumnRow}
use Rattle.nt_grammar.specs.Columns.{column_types}
use Rattle.nt_grammar.specs.Added.{MarkedData, late_row, late_rows, first_of, added_rows}
use Rattle.nt_grammar.specs.Open.{columns_of_field}
use Rattle.nt_grammar.specs.ReadingBack.{IsColumnRow}
use Rattle.nt_grammar.proofs.Described.{two-columns, other-columns, own-columns}
use Rattle.nt_plans.specs.Place.{column_ids}

-- ---- rows of a table say nothing of fields behind them

pub no-columns : (p n : ℕ) (cs : List ColumnRow) → AllByRecursion (IsColumnRow n) cs → n ≤ p → columns_of_field p cs ≡ []
no-columns p n [] a h = refl
no-columns p n (c ∷ cs) a h =
    let below : c.field < n = a.0.field in
    let other : (c.field == p) ≡ false = grind (arith, nat_tests) in
    rw other (no-columns p n cs a.1 h)

-- ---- each added field has its own behind them

late-other : (first id j : ℕ) (ts : List ColumnType) → (j == id) ≡ false → columns_of_field id (late_rows first j ts) ≡ []
late-other first id j [] h = refl
late-other first id j (t ∷ ts) h = rw h (other-columns id j ts h)

late-own : (first id : ℕ) (ts : List ColumnType) → (id == id) ≡ true → columns_of_field id (late_rows first id ts) ≡ late_rows first id ts
late-own first id [] h = refl
late-own first id (t ∷ ts) h = rw h (ap (λ (z : List ColumnRow). late_row first id t ∷ z) (own-columns id ts h))

later-added : (plain : Bool) (entries id from : ℕ) (ms : List MarkedData) → id < from
    → columns_of_field id (added_rows plain entries from ms) ≡ []
later-added plain entries id from [] h = refl
later-added plain entries id from (m ∷ ms) h =
    let other : (from == id) ≡ false = grind (arith, nat_tests) in
    let first : ℕ = first_of entries m.principal in
    two-columns id (late_rows first from (column_types plain m.node.of)) (added_rows plain entries (from + 1) ms)
    ∙ rw (late-other first id from (column_types plain m.node.of) other) (later-added plain entries id (from + 1) ms (omega arith))

pub added-from : (plain : Bool) (entries from k : ℕ) (ms : List MarkedData) (m : MarkedData) → slice_get ms k ≡ Some m
    → columns_of_field (from + k) (added_rows plain entries from ms)
    ≡ late_rows (first_of entries m.principal) (from + k) (column_types plain m.node.of)
added-from plain entries from k [] m is = cc
added-from plain entries from zero (q ∷ ms) m is =
    let same : q ≡ m = cc in
    let own : (from == from) ≡ true = grind (arith, nat_tests) in
    let first : ℕ = first_of entries q.principal in
    rw add-zero (two-columns from (late_rows first from (column_types plain q.node.of)) (added_rows plain entries (from + 1) ms)
    ∙ rw (late-own first from (column_types plain q.node.of) own, later-added plain entries from (from + 1) ms (omega arith), same)
    (append-nil (late_rows (first_of entries m.principal) from (column_types plain m.node.of))))
added-from plain entries from (suc k) (q ∷ ms) m is =
    let next : (from + 1) + k ≡ from + suc k = omega arith in
    let other : (from == (from + suc k)) ≡ false = grind (arith, nat_tests) in
    let first : ℕ = first_of entries q.principal in
    let later : columns_of_field (from + suc k) (added_rows plain entries (from + 1) ms)
    ≡ late_rows (first_of entries m.principal) (from + suc k) (column_types plain m.node.of) =
    rw next at (added-from plain entries (from + 1) k ms m is) in
    two-columns (from + suc k) (late_rows first from (column_types plain q.node.of)) (added_rows plain entries (from + 1) ms)
    ∙ rw (late-other first (from + suc k) from (column_types plain q.node.of) other) later

-- ---- the id of the first column of a field

pub own-first : (x from : ℕ) (cs : List ColumnRow) (c : ColumnRow) (rest : List ColumnRow) → columns_of_field x cs ≡ c ∷ rest
    → (k : ℕ) × (get_or (column_ids x from cs) 0 0 ≡ from + k) × (slice_get cs k ≡ Some c)
own-first x from [] c rest e = cc
own-first x from (d ∷ ds) c rest e = by (d.field == x) refl e (own-first x (from + 1) ds c rest)
  where
    by : (b : Bool) → (d.field == x) ≡ b → (if b then d ∷ columns_of_field x ds else columns_of_field x ds) ≡ c ∷ rest
        → (columns_of_field x ds ≡ c ∷ rest
        → (k : ℕ) × (get_or (column_ids x (from + 1) ds) 0 0 ≡ (from + 1) + k) × (slice_get ds k ≡ Some c))
        → (k : ℕ) × (get_or ((if b then from ∷ [] else []) ++ column_ids x (from + 1) ds) 0 0 ≡ from + k) × (slice_get (d ∷ ds) k ≡ Some c)
    by true h e later = (0, omega arith, cc)
    by false h e later =
        let found = later e in
        let next : (from + 1) + found.0 ≡ from + suc found.0 = omega arith in
        (suc found.0, found.1 ∙ next, found.2)
