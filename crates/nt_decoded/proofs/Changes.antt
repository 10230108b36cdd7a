-- Columns that are empty, and those that change.
use Rattle.std.proofs.Common.{◌≡◌, ℕ, zero, suc, ◌+◌, ◌<◌, List, [], ◌∷◌, ◌++◌, map, take, drop, length, get_or, slice_get, Some, refl, sym}
use Rattle.std.proofs.Common.{ap, ◌∙◌, arith}
use Rattle.std.proofs.Math.ListN.{set}
use Rattle.std.proofs.lemmas.Grind.{drop_more_same}
use Rattle.std.proofs.lemmas.Option.{get_or_from_slice_get, slice_get-get_or}
use Rattle.std.proofs.lemmas.List.{take_more, take-map, drop-map, get_or-drop, get_or-map, length-map, length-set, take-set, drop-set-lt}
use Rattle.nt_lists.proofs.Variants.{some_is}
use Rattle.nt_types.specs.declared.column_type.ColumnType.TheVariants.{Bit}
use Rattle.nt_encode.specs.Elements.{Element}
use Rattle.nt_column.specs.Column.{Column, Buffer, empty, zeroed, changed, columns_of, elements_at}
use Rattle.nt_grammar.specs.declared.rows.ColumnRow.{ColumnRow}
use Rattle.nt_file_meaning.specs.Clusters.{zero_elements}
use Rattle.nt_decoded.specs.Columns.{kept_empty, held_column, held_elements, AreReadTo, ChangesOne}

pub none-read : (rows : List ColumnRow) (bs : List Buffer) → columns_of bs ≡ map kept_empty rows → AreReadTo rows 0 (columns_of bs)
none-read rows bs is = record { all = ap (λ (l : List Column). length l) is ∙ length-map rows kept_empty; others = is }

-- the column that is read next is empty
pub next-empty : (rows : List ColumnRow) (cs : List Column) (id : ℕ) (row : ColumnRow) → AreReadTo rows id cs
    → slice_get rows id ≡ Some row → id < length rows → held_column cs id ≡ kept_empty row
next-empty rows cs id row r there lt =
    let here : get_or (drop id cs) 0 (empty Bit) ≡ get_or (drop id (map kept_empty rows)) 0 (empty Bit) =
    ap (λ (l : List Column). get_or l 0 (empty Bit)) (r.others ∙ sym (drop-map kept_empty id rows)) in
    let same : id + 0 ≡ id = omega arith in
    ap (λ (n : ℕ). get_or cs n (empty Bit)) (sym same) ∙ sym (get_or-drop id cs 0 (empty Bit)) ∙ here
    ∙ get_or-drop id (map kept_empty rows) 0 (empty Bit)
    ∙ ap (λ (n : ℕ). get_or (map kept_empty rows) n (empty Bit)) same ∙ get_or-map kept_empty rows id row (empty Bit) lt
    ∙ ap kept_empty (get_or_from_slice_get rows id row row there)

-- its elements, by its column
pub elements-of : (cs : List Column) (id : ℕ) → elements_at cs id ≡ (held_column cs id).elements
elements-of [] id = refl
elements-of (c ∷ cs) zero = refl
elements-of (c ∷ cs) (suc id) = elements-of cs id

-- one column more was read
pub read-more : (rows : List ColumnRow) (cs ds : List Column) (id : ℕ) → AreReadTo rows id cs → ChangesOne id cs ds
    → AreReadTo rows (id + 1) ds
read-more rows cs ds id r c = record {
  all = c.all ∙ r.all;
  others = c.behind ∙ drop_more_same cs (map kept_empty rows) id (r.others ∙ sym (drop-map kept_empty id rows))
      ∙ drop-map kept_empty (id + 1) rows;
}

pub held-more : (bs ds : List Buffer) (id : ℕ) → id < length (columns_of ds) → ChangesOne id (columns_of bs) (columns_of ds)
    → take (id + 1) (held_elements ds) ≡ take id (held_elements bs) ++ elements_at (columns_of ds) id ∷ []
held-more bs ds id lt c =
    let elements : Column → List Element = λ x. x.elements in
    let inside : id < length (held_elements ds) = omega (arith, length-map (columns_of ds) elements) in
    let before : take id (held_elements ds) ≡ take id (held_elements bs) =
    take-map elements id (columns_of ds) ∙ ap (λ (l : List Column). map elements l) c.before
    ∙ sym (take-map elements id (columns_of bs)) in
    take_more (held_elements ds) id [] inside ∙ ap (λ (l : List (List Element)). l ++ elements_at (columns_of ds) id ∷ []) before

-- a buffer that changed
pub set-changes : (bs : List Buffer) (id : ℕ) (b : Buffer) → ChangesOne id (columns_of bs) (columns_of (set bs id b))
set-changes bs id b =
    let column : Buffer → Column = λ x. x.column in
    record {
      all = length-map (set bs id b) column ∙ length-set bs id b ∙ sym (length-map bs column);
      before = take-map column id (set bs id b) ∙ ap (λ (l : List Buffer). map column l) (take-set bs id b) ∙ sym (take-map column id bs);
      behind = drop-map column (id + 1) (set bs id b) ∙ ap (λ (l : List Buffer). map column l)
          (drop-set-lt (id + 1) bs id b (omega arith)) ∙ sym (drop-map column (id + 1) bs);
    }

pub set-elements : (bs : List Buffer) (id : ℕ) (b : Buffer) → id < length bs
    → elements_at (columns_of (set bs id b)) id ≡ b.column.elements
set-elements [] id b lt = absurd (omega arith)
set-elements (x ∷ bs) zero b lt = refl
set-elements (x ∷ bs) (suc id) b lt = set-elements bs id b (omega arith)

-- what is seen of a column is seen of its buffer
pub buffer-column : (bs : List Buffer) (id : ℕ) (b : Buffer) → slice_get bs id ≡ Some b → held_column (columns_of bs) id ≡ b.column
buffer-column [] id b e = absurd cc
buffer-column (x ∷ bs) zero b e = ap (λ (y : Buffer). y.column) (some_is x b e)
buffer-column (x ∷ bs) (suc id) b e = buffer-column bs id b e

-- a column that changed
changed-length : (f : Column → Column) (id : ℕ) (cs : List Column) → length (changed f id cs) ≡ length cs
changed-length f id [] = refl
changed-length f zero (c ∷ cs) = refl
changed-length f (suc id) (c ∷ cs) = ap suc (changed-length f id cs)

changed-before : (f : Column → Column) (id : ℕ) (cs : List Column) → take id (changed f id cs) ≡ take id cs
changed-before f id [] = refl
changed-before f zero (c ∷ cs) = refl
changed-before f (suc id) (c ∷ cs) = ap (λ (l : List Column). c ∷ l) (changed-before f id cs)

changed-behind : (f : Column → Column) (id : ℕ) (cs : List Column) → drop (suc id) (changed f id cs) ≡ drop (suc id) cs
changed-behind f id [] = refl
changed-behind f zero (c ∷ cs) = refl
changed-behind f (suc id) (c ∷ cs) = changed-behind f id cs

pub changed-changes : (f : Column → Column) (id : ℕ) (cs ds : List Column) → ds ≡ changed f id cs → ChangesOne id cs ds
changed-changes f id cs ds is =
    let next : id + 1 ≡ suc id = omega arith in
    record {
      all = ap (λ (l : List Column). length l) is ∙ changed-length f id cs;
      before = ap (λ (l : List Column). take id l) is ∙ changed-before f id cs;
      behind = ap (λ (l : List Column). drop (id + 1) l) is ∙ ap (λ (n : ℕ). drop n (changed f id cs)) next ∙ changed-behind f id cs
          ∙ ap (λ (n : ℕ). drop n cs) (sym next);
    }

pub zeroed-elements : (id n : ℕ) (cs ds : List Column) → id < length cs → ds ≡ changed (λ c. zeroed c.kind n) id cs
    → elements_at ds id ≡ zero_elements n
zeroed-elements id n cs ds lt is = ap (λ (l : List Column). elements_at l id) is ∙ by id cs lt
  where
    by : (id : ℕ) (cs : List Column) → id < length cs → elements_at (changed (λ c. zeroed c.kind n) id cs) id ≡ zero_elements n
    by id [] lt = absurd (omega arith)
    by zero (c ∷ cs) lt = refl
    by (suc id) (c ∷ cs) lt = by id cs (omega arith)

-- the column that is read next has no elements
pub next-elements : (rows : List ColumnRow) (cs : List Column) (id : ℕ) (row : ColumnRow) → AreReadTo rows id cs
    → slice_get rows id ≡ Some row → id < length rows → elements_at cs id ≡ []
next-elements rows cs id row r there lt = elements-of cs id ∙ ap (λ (c : Column). c.elements) (next-empty rows cs id row r there lt)

pub next-kind : (rows : List ColumnRow) (cs : List Column) (id : ℕ) (row : ColumnRow) → AreReadTo rows id cs
    → slice_get rows id ≡ Some row → id < length rows → held_column cs id ≡ empty (held_column cs id).kind
next-kind rows cs id row r there lt = let e = next-empty rows cs id row r there lt in e ∙ ap (λ (c : Column). empty c.kind) (sym e)

-- any row, where one is there
pub any_row : ColumnRow
any_row = record { code = 0; bits = 0; field = 0; flags = 0; representation = 0; first = 0 }

pub row-there : (rows : List ColumnRow) (id : ℕ) → id < length rows → slice_get rows id ≡ Some (get_or rows id any_row)
row-there rows id lt = slice_get-get_or rows id any_row lt

-- a column of the schema is there, before and after another changed
pub inside : (rows : List ColumnRow) (cs : List Column) (id : ℕ) → length cs ≡ length rows → id < length rows → id < length cs
inside rows cs id all lt = omega (arith, all, lt)

pub inside-more : (rows : List ColumnRow) (cs ds : List Column) (id : ℕ) → AreReadTo rows id cs → ChangesOne id cs ds → id < length rows
    → id < length ds
inside-more rows cs ds id r c lt = omega (arith, r.all, c.all, lt)
