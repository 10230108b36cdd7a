-- Rows that are read one behind the other.
use Rattle.std.proofs.Common.{◌≡◌, ℕ, Bool, true, suc, ◌+◌, ◌-◌, ◌<◌, ◌≤◌, List, [], ◌∷◌, ◌++◌, length, Option, Result, Ok, refl, sym, ap}
use Rattle.std.proofs.Common.{subst, ◌∙◌, arith}
use Rattle.std.specs.List.{list_all}
use Rattle.std.proofs.lemmas.List.Folds.{list_all-append}
use Rattle.nt_num.specs.Place.{At}
use Rattle.nt_lists.specs.Chaining.{◌>>=◌}
use Rattle.nt_lists.specs.Answering.{Refuses}
use Rattle.nt_lists.proofs.Answering.{Refuses-bind}
use Rattle.nt_num.specs.declared.fault.ReadError.{ReadError}
use Rattle.nt_grammar.specs.declared.rows.FieldRow.{FieldRow}
use Rattle.nt_grammar.specs.declared.rows.ColumnRow.{ColumnRow}
use Rattle.nt_grammar.specs.Reading.{field_at, fields_on, column_at, columns_on}

-- one of the rows that are left
one_less : (n i : ℕ) → i < n → n - i ≡ suc (n - (i + 1))
one_less n i lt = omega arith

none_left : (n i : ℕ) → n ≤ i → n - i ≡ 0
none_left n i le = omega arith

pub fields-next : (n i id : ℕ) (rows more : List FieldRow) (here after : At) (row : FieldRow) (all : Result (List FieldRow) ReadError)
    → i < n → id ≡ length rows
    → field_at id here ≡ Ok (row, after) → more ≡ rows ++ row ∷ [] → fields_on (n - i) rows here ≡ all
    → fields_on (n - (i + 1)) more after ≡ all
fields-next n i id rows more here after row all lt is e new h =
    let read : field_at (length rows) here ≡ Ok (row, after) = subst (λ (k : ℕ). field_at k here ≡ Ok (row, after)) is e in
    let step = ap (λ (k : ℕ). fields_on k rows here) (one_less n i lt)
    ∙ ap (λ (r : Result (FieldRow × At) ReadError). r >>= λ row. fields_on (n - (i + 1)) (rows ++ row.0 ∷ []) row.1) read in
    ap (λ (l : List FieldRow). fields_on (n - (i + 1)) l after) new ∙ sym step ∙ h

pub fields-fail : (n i id : ℕ) (rows : List FieldRow) (here : At) (e : Option ReadError) (all : Result (List FieldRow) ReadError) → i < n
    → id ≡ length rows
    → Refuses e (field_at id here) → fields_on (n - i) rows here ≡ all → Refuses e all
fields-fail n i id rows here e all lt is f h =
    subst (Refuses e) (sym (ap (λ (k : ℕ). fields_on k rows here) (one_less n i lt)) ∙ h)
    (Refuses-bind e (field_at (length rows) here) (λ row. fields_on (n - (i + 1)) (rows ++ row.0 ∷ []) row.1)
    (subst (λ (k : ℕ). Refuses e (field_at k here)) is f))

pub fields-done : (n i : ℕ) (rows : List FieldRow) (here : At) (all : Result (List FieldRow) ReadError) → n ≤ i
    → fields_on (n - i) rows here ≡ all → all ≡ Ok rows
fields-done n i rows here all le h = sym h ∙ ap (λ (k : ℕ). fields_on k rows here) (none_left n i le)

pub columns-next : (fields n i : ℕ) (rows : List ColumnRow) (here after : At) (row : ColumnRow) (all : Result (List ColumnRow) ReadError)
    → i < n
    → column_at fields here ≡ Ok (row, after) → columns_on fields (n - i) rows here ≡ all
    → columns_on fields (n - (i + 1)) (rows ++ row ∷ []) after ≡ all
columns-next fields n i rows here after row all lt e h =
    sym (ap (λ (k : ℕ). columns_on fields k rows here) (one_less n i lt)
    ∙ ap (λ (r : Result (ColumnRow × At) ReadError). r >>= λ row. columns_on fields (n - (i + 1)) (rows ++ row.0 ∷ []) row.1) e) ∙ h

pub columns-fail : (fields n i : ℕ) (rows : List ColumnRow) (here : At) (e : Option ReadError) (all : Result (List ColumnRow) ReadError)
    → i < n
    → Refuses e (column_at fields here) → columns_on fields (n - i) rows here ≡ all → Refuses e all
columns-fail fields n i rows here e all lt f h =
    subst (Refuses e) (sym (ap (λ (k : ℕ). columns_on fields k rows here) (one_less n i lt)) ∙ h)
    (Refuses-bind e (column_at fields here) (λ row. columns_on fields (n - (i + 1)) (rows ++ row.0 ∷ []) row.1) f)

pub columns-done : (fields n i : ℕ) (rows : List ColumnRow) (here : At) (all : Result (List ColumnRow) ReadError) → n ≤ i
    → columns_on fields (n - i) rows here ≡ all → all ≡ Ok rows
columns-done fields n i rows here all le h = sym h ∙ ap (λ (k : ℕ). columns_on fields k rows here) (none_left n i le)

-- one more that passes
pub passes-push : {X : Type 0} (test : X → Bool) (xs more : List X) (x : X) → list_all test xs ≡ true → test x ≡ true → more ≡ xs ++ x ∷ []
    → list_all test more ≡ true
passes-push test xs more x all one e =
    ap (list_all test) e ∙ list_all-append test xs (x ∷ []) ∙ rw (all, one) refl

pub ruleset field_steps = (fields-next, fields-fail, fields-done)

pub ruleset column_steps = (columns-next, columns-fail, columns-done)
