-- The types by which columns are kept.
use Rattle.std.proofs.Common.{◌≡◌, ℕ, ◌+◌, ◌<◌, ◌≤◌, List, [], ◌∷◌, ◌++◌, map, take, length, slice_get, Some, refl, sym, ap, ◌∙◌}
use Rattle.std.proofs.lemmas.Option.{get_or_from_slice_get}
use Rattle.std.proofs.lemmas.List.{take_all, map_more}
use Rattle.nt_types.specs.declared.column_type.ColumnType.{ColumnType}
use Rattle.nt_column.specs.Column.{Column, empty}
use Rattle.nt_grammar.specs.declared.rows.ColumnRow.{ColumnRow}
use Rattle.nt_file_meaning.specs.Clusters.{kind_of_code}
use Rattle.nt_decoded.specs.Columns.{kind_or_bit, kept_empty, AreOfTypes}

abbrev pub kept_kind : ColumnRow → ColumnType
kept_kind c = kind_or_bit (kind_of_code c.code)

-- the type of one column more
pub kinds-more : (rows : List ColumnRow) (id : ℕ) (row : ColumnRow) (kinds more : List ColumnType) (kind : ColumnType)
    → kinds ≡ map kept_kind (take id rows)
    → slice_get rows id ≡ Some row → id < length rows → kind ≡ kept_kind row → more ≡ kinds ++ kind ∷ []
    → more ≡ map kept_kind (take (id + 1) rows)
kinds-more rows id row kinds more kind so_far there lt is new =
    new ∙ ap (λ (l : List ColumnType). l ++ kind ∷ []) so_far ∙ ap (λ (k : ColumnType). map kept_kind (take id rows) ++ k ∷ []) (is
    ∙ ap kept_kind (sym (get_or_from_slice_get rows id row row there)))
    ∙ sym (map_more kept_kind rows id row lt)

-- columns without elements
pub empty-all : (rows : List ColumnRow) → map empty (map (λ (c : ColumnRow). kind_or_bit (kind_of_code c.code)) rows) ≡ map kept_empty
    rows
empty-all [] = refl
empty-all (r ∷ rows) = ap (λ (l : List Column). kept_empty r ∷ l) (empty-all rows)

pub kinds-all : (rows : List ColumnRow) (n : ℕ) (kinds given : List ColumnType) (cs : List Column) → kinds ≡ map kept_kind (take n rows)
    → length rows ≤ n → given ≡ kinds → cs ≡ map empty given
    → cs ≡ map kept_empty rows
kinds-all rows n kinds given cs is le same made =
    made ∙ ap (λ (l : List ColumnType). map empty l) (same ∙ is ∙ ap (λ (l : List ColumnRow). map kept_kind l) (take_all n rows le))
    ∙ empty-all rows

-- one column more is of its row's type
pub types-more : (rows : List ColumnRow) (cs : List Column) (id : ℕ) (row : ColumnRow) (c : Column)
    → AreOfTypes (take id rows) (take id cs) → slice_get cs id ≡ Some c → id < length cs
    → slice_get rows id ≡ Some row → id < length rows → c.kind ≡ kept_kind row → AreOfTypes (take (id + 1) rows) (take (id + 1) cs)
types-more rows cs id row c so_far here within there lt is =
    let emptied = λ (x : Column). empty x.kind in
    let front : List Column = map kept_empty (take id rows) in
    map_more emptied cs id c within
    ∙ (ap (λ (x : Column). map emptied (take id cs) ++ empty x.kind ∷ []) (get_or_from_slice_get cs id c c here)
    ∙ (ap (λ (l : List Column). l ++ empty c.kind ∷ []) so_far
    ∙ (ap (λ (k : ColumnType). front ++ empty k ∷ []) is
    ∙ (ap (λ (r : ColumnRow). front ++ kept_empty r ∷ []) (sym (get_or_from_slice_get rows id row row there))
    ∙ sym (map_more kept_empty rows id row lt)))))

pub types-all : (rows : List ColumnRow) (cs : List Column) (n : ℕ) → length rows ≤ n → length cs ≤ n
    → AreOfTypes (take n rows) (take n cs) → AreOfTypes rows cs
types-all rows cs n le many is =
    ap (λ (l : List Column). map (λ (x : Column). empty x.kind) l) (sym (take_all n cs many))
    ∙ (is ∙ ap (λ (l : List ColumnRow). map kept_empty l) (take_all n rows le))
