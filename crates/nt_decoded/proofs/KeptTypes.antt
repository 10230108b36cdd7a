-- Columns keep their types, and have the elements of their rows' types.
use Rattle.std.proofs.Common.{◌≡◌, ℕ, zero, suc, List, [], ◌∷◌, map, get_or, drop, slice_get, Some, refl, sym, ap, subst, ◌∙◌}
use Rattle.std.proofs.Math.ListN.{set}
use Rattle.nt_lists.proofs.Variants.{some_is}
use Rattle.nt_types.specs.declared.column_type.ColumnType.{ColumnType}
use Rattle.nt_types.specs.declared.column_type.ColumnType.TheVariants.{Bit}
use Rattle.nt_column.specs.Elements.{AreElementsOf}
use Rattle.nt_column.specs.Column.{Column, Buffer, empty, changed, columns_of, elements_at, kind_at}
use Rattle.nt_grammar.specs.declared.rows.ColumnRow.{ColumnRow}
use Rattle.nt_fitting.specs.Fitting.{AreOfRows}
use Rattle.nt_file_meaning.specs.Clusters.{columns_by_id, kind_of_code}
use Rattle.nt_decoded.specs.Columns.{kind_or_bit, kept_empty, held_elements, AreOfTypes, KeepTypes}
use Rattle.nt_listing.proofs.ColumnKinds.{kind-found}
use Rattle.nt_decoded.proofs.ColumnKinds.{kept_kind}

-- a buffer of the same type takes the place of one
pub set-types : (bs : List Buffer) (id : ℕ) (b c : Buffer) → slice_get bs id ≡ Some c → b.column.kind ≡ c.column.kind
    → KeepTypes (columns_of bs) (columns_of (set bs id b))
set-types [] id b c at same = refl
set-types (x ∷ bs) zero b c at same =
    let is : b.column.kind ≡ x.column.kind = same ∙ ap (λ (y : Buffer). y.column.kind) (sym (some_is x c at)) in
    ap (λ (k : ColumnType). empty k ∷ map (λ (d : Column). empty d.kind) (columns_of bs)) is
set-types (x ∷ bs) (suc id) b c at same = ap (λ (l : List Column). empty x.column.kind ∷ l) (set-types bs id b c at same)

-- a column changes, and not its type
changed-types : (f : Column → Column) → ((c : Column) → (f c).kind ≡ c.kind) → (id : ℕ) (cs : List Column)
    → KeepTypes cs (changed f id cs)
changed-types f keeps id [] = refl
changed-types f keeps zero (c ∷ cs) = ap (λ (k : ColumnType). empty k ∷ map (λ (d : Column). empty d.kind) cs) (keeps c)
changed-types f keeps (suc id) (c ∷ cs) = ap (λ (l : List Column). empty c.kind ∷ l) (changed-types f keeps id cs)

pub changed-keeps : (f : Column → Column) (id : ℕ) (cs ds : List Column) → ((c : Column) → (f c).kind ≡ c.kind) → ds ≡ changed f id cs
    → KeepTypes cs ds
changed-keeps f id cs ds keeps is = subst (λ (l : List Column). KeepTypes cs l) (sym is) (changed-types f keeps id cs)

empty-types : (rows : List ColumnRow) → AreOfTypes rows (map kept_empty rows)
empty-types [] = refl
empty-types (r ∷ rows) = ap (λ (l : List Column). kept_empty r ∷ l) (empty-types rows)

-- columns without elements are of their rows' types
pub types-of_empty : (rows : List ColumnRow) (cs : List Column) → cs ≡ map kept_empty rows → AreOfTypes rows cs
types-of_empty rows cs is = subst (λ (l : List Column). AreOfTypes rows l) (sym is) (empty-types rows)

-- the type of a column that is there
kind-there : (rows : List ColumnRow) (cs : List Column) (k : ℕ) (row : ColumnRow) → AreOfTypes rows cs → slice_get rows k ≡ Some row
    → kind_at cs k ≡ Some (kept_kind row)
kind-there [] cs k row is at = absurd cc
kind-there (r ∷ rows) [] k row is at = absurd cc
kind-there (r ∷ rows) (c ∷ cs) zero row is at =
    let own : c.kind ≡ kept_kind r = ap (λ (l : List Column). (get_or l 0 (empty Bit)).kind) is in
    ap (λ (t : ColumnType). Some t) (own ∙ ap kept_kind (some_is r row at))
kind-there (r ∷ rows) (c ∷ cs) (suc k) row is at = kind-there rows cs k row (ap (λ (l : List Column). drop 1 l) is) at

-- the elements of columns are of the types of their rows
pub rows-typed : (rows : List ColumnRow) (bs : List Buffer) → AreOfTypes rows (columns_of bs)
    → ((k : ℕ) (t : ColumnType) → kind_at (columns_of bs) k ≡ Some t → AreElementsOf t (elements_at (columns_of bs) k))
    → AreOfRows rows (columns_by_id (held_elements bs))
rows-typed rows bs are each k row kind at code =
    let same : kept_kind row ≡ kind = ap (λ (n : ℕ). kind_or_bit (kind_of_code n)) code ∙ ap kind_or_bit (kind-found kind) in
    each k kind (kind-there rows (columns_of bs) k row are at ∙ ap (λ (t : ColumnType). Some t) same)
