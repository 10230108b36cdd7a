-- What the rows of described fields are: their columns have types of the table, and a field is open.
use Rattle.std.proofs.Common.{◌≡◌, ◌∙◌, ap, sym, refl, subst, ℕ, zero, suc, ◌+◌, ◌<◌, Bool, true, List, [], ◌∷◌, ◌++◌, length, map, Some}
use Rattle.std.proofs.Common.{arith, append_assoc}
use Rattle.std.proofs.lemmas.List.{map-append}
use Rattle.std.specs.Prelude.{slice_get, drop}
use Rattle.std.specs.Option.{option_and_then}
use Rattle.nt_types.specs.ShapeData.{ShapeData, MemberData}
use Rattle.nt_types.specs.ColumnTable.{code_of}
use Rattle.nt_types.specs.Rules.{AreFields}
use Rattle.nt_types.specs.declared.column_type.ColumnType.{ColumnType}
use Rattle.nt_grammar.specs.declared.rows.FieldRow.{FieldRow}
use Rattle.nt_grammar.specs.declared.rows.ColumnRow.{ColumnRow}
use Rattle.nt_grammar.specs.Table.{Table}
use Rattle.nt_grammar.specs.Rows.{NodeData, Rows, column_row, column_rows}
use Rattle.nt_grammar.specs.Columns.{column_types}
use Rattle.nt_grammar.specs.Open.{top_shape, open_shape, open_shapes}
use Rattle.nt_grammar.specs.AsRead.{as_read}
use Rattle.nt_plans.specs.Place.{place_from, open_plans}
use Rattle.nt_plans.specs.Types.{are_some}
use Rattle.nt_fill.specs.Context.{IsTableFor, HasKnownType}

-- each row of a list is known
abbrev AllHaveKnownTypes : List ColumnRow → Type 0
AllHaveKnownTypes rows = (k : ℕ) (r : ColumnRow) → slice_get rows k ≡ Some r → HasKnownType r

known_rows : (id : ℕ) (kinds : List ColumnType) (rest : List ColumnRow) → AllHaveKnownTypes rest
    → AllHaveKnownTypes (map (column_row id) kinds ++ rest)
known_rows id [] rest known k r at = known k r at
known_rows id (kind ∷ kinds) rest known zero r at = let same : column_row id kind ≡ r = cc in (kind, ap (λ (x : ColumnRow). x.code) same)
known_rows id (kind ∷ kinds) rest known (suc k) r at = known_rows id kinds rest known k r at

known_columns : (plain : Bool) (id : ℕ) (nodes : List NodeData) → AllHaveKnownTypes (column_rows plain id nodes)
known_columns plain id [] k r at = absurd (cc)
known_columns plain id (n ∷ nodes) k r at = known_rows id (column_types plain n.of) (column_rows plain (id + 1) nodes)
    (known_columns plain (id + 1) nodes) k r at

pub described_known : (count : ℕ) (t : Table) → IsTableFor count t → (k : ℕ) (r : ColumnRow)
    → slice_get t.columns k ≡ Some r → HasKnownType r
described_known count t is k r at = known_columns is.plain 0 is.rows.nodes k r
    (ap (λ (rows : List ColumnRow). slice_get rows k) (sym is.rows.columns_by_field) ∙ at)

drop_next : (rows : List ColumnRow) (k : ℕ) (r : ColumnRow) → slice_get rows k ≡ Some r → drop k rows ≡ r ∷ drop (k + 1) rows
drop_next [] k r at = absurd (cc)
drop_next (x ∷ rows) zero r at = let same : x ≡ r = cc in ap (λ (y : ColumnRow). y ∷ rows) same
drop_next (x ∷ rows) (suc k) r at = let up : suc (k + 1) ≡ suc k + 1 =
    omega arith in drop_next rows k r at ∙ ap (λ (n : ℕ). r ∷ drop n (x ∷ rows)) up

-- one type more is that of the next row
pub codes_next : (rows : List ColumnRow) (k : ℕ) (r : ColumnRow) (kinds : List ColumnType) (kind : ColumnType) (whole : List ℕ)
    → slice_get rows k ≡ Some r → code_of kind ≡ r.code
    → map code_of kinds ++ map (λ (x : ColumnRow). x.code) (drop k rows) ≡ whole → map code_of (kinds ++ kind ∷ [])
    ++ map (λ (x : ColumnRow). x.code) (drop (k + 1) rows) ≡ whole
codes_next rows k r kinds kind whole at is before =
    let rest = map (λ (x : ColumnRow). x.code) (drop (k + 1) rows) in
    ap (λ (l : List ℕ). l ++ rest) (map-append code_of kinds (kind ∷ []))
    ∙ (append_assoc (map code_of kinds) (code_of kind ∷ []) rest
    ∙ (ap (λ (n : ℕ). map code_of kinds ++ n ∷ rest) is
    ∙ (ap (λ (l : List ColumnRow). map code_of kinds ++ map (λ (x : ColumnRow). x.code) l) (sym (drop_next rows k r at)) ∙ before)))

some_open : (fs : List FieldRow) (cs : List ColumnRow) (rows : List FieldRow) (k : ShapeData)
    → option_and_then (top_shape fs cs 0) (slice_get rows 0) ≡ Some k
    → are_some (place_from fs cs 0 (open_shapes fs cs 0 rows)) ≡ true
some_open fs cs [] k at = absurd (cc)
some_open fs cs (r ∷ rows) k at = subst (λ o. are_some (place_from fs cs 0 (o ∷ open_shapes fs cs (0 + 1) rows)) ≡ true) (sym at) refl

first_field : (fields : List MemberData) → 0 < length fields → (f : MemberData) × (slice_get fields 0 ≡ Some f)
first_field [] some = absurd (omega (arith, some))
first_field (f ∷ fields) some = (f, refl)

-- where described fields are open, there is an open field
pub described_some : ((fields : List MemberData) (plain : Bool) (table : Table) → AreFields fields → Rows fields plain table
    → (id : ℕ) (field : MemberData) → slice_get fields id ≡ Some field
    → open_shape table id ≡ Some (as_read field.of)) → (count : ℕ) (t : Table) → IsTableFor count t → are_some (open_plans t) ≡ true
described_some opened count t is =
    let first = first_field is.fields is.rules.some in
    some_open t.fields t.columns t.fields (as_read first.0.of) (opened is.fields is.plain t is.rules is.rows 0 first.0 first.1)
