-- The shapes of open fields, level by level and by id.
use Rattle.std.proofs.Common.{ℕ, zero, suc, ◌≡◌, ◌+◌, List, [], ◌∷◌, map, Option, None, Some, slice_get, refl, sym, ap, ◌∙◌, add-zero}
use Rattle.std.proofs.Common.{zero-add, arith, Bool, ◌<◌, ◌≤◌, ◌-◌, length}
use Rattle.std.proofs.lemmas.List.{length-map}
use Rattle.std.proofs.lemmas.Option.{slice_get-map, slice_get_past, slice_get_read}
use Rattle.std.specs.Prelude.{option_map, option_and_then}
use Rattle.nt_types.specs.ShapeData.{ShapeData}
use Rattle.nt_grammar.specs.declared.rows.FieldRow.{FieldRow}
use Rattle.nt_grammar.specs.declared.rows.ColumnRow.{ColumnRow}
use Rattle.nt_grammar.specs.Open.{top_shape, open_shapes, field_of_row, open_field}
use Rattle.std.proofs.Math.ListN.{get_or}

slice_get-open_shapes : (fs : List FieldRow) (cs : List ColumnRow) (from : ℕ) (rows : List FieldRow) (k : ℕ)
    → slice_get (open_shapes fs cs from rows) k ≡ option_map (top_shape fs cs (from + k)) (slice_get rows k)
slice_get-open_shapes fs cs from [] k = refl
slice_get-open_shapes fs cs from (r ∷ rs) zero = rw add-zero refl
slice_get-open_shapes fs cs from (r ∷ rs) (suc k) =
    let next : (from + 1) + k ≡ from + suc k = omega arith in
    rw next at (slice_get-open_shapes fs cs (from + 1) rs k)

joined : (o : Option FieldRow) (f : FieldRow → Option ShapeData)
    → option_and_then (λ (k : Option ShapeData). k) (option_map f o) ≡ option_and_then f o
joined None f = refl
joined (Some r) f = refl

-- what is kept of a field
pub kept_shape : {S : Type 0} (view : S → ShapeData) (shapes : List (Option S)) (fs : List FieldRow) (cs : List ColumnRow) (id : ℕ)
    → map (option_map view) shapes ≡ open_shapes fs cs 0 fs
    → option_and_then (option_map view) (slice_get shapes id) ≡ option_and_then (top_shape fs cs id) (slice_get fs id)
kept_shape view shapes fs cs id e =
    sym (kept_joined (slice_get shapes id))
    ∙ (ap (λ (o : Option (Option ShapeData)). option_and_then (λ (k : Option ShapeData). k) o)
    (sym (slice_get-map (option_map view) shapes id)
    ∙ (ap (λ (l : List (Option ShapeData)). slice_get l id) e ∙ rw zero-add at (slice_get-open_shapes fs cs 0 fs id)))
    ∙ joined (slice_get fs id) (top_shape fs cs id))
  where
    kept_joined : (o : Option (Option _)) → option_and_then (λ (k : Option ShapeData). k) (option_map (option_map view) o)
        ≡ option_and_then (option_map view) o
    kept_joined None = refl
    kept_joined (Some x) = refl

-- no level is left
pub open_field_none : (depth : ℕ) (fs : List FieldRow) (cs : List ColumnRow) (principal : Bool) (id : ℕ) → depth ≡ 0
    → open_field depth fs cs principal id ≡ None
unfolding open_field
open_field_none zero fs cs principal id h = refl
open_field_none (suc depth) fs cs principal id h = absurd (omega arith)

-- there is no such field
pub open_field_past : (depth : ℕ) (fs : List FieldRow) (cs : List ColumnRow) (principal : Bool) (id : ℕ) → length fs ≤ id
    → open_field depth fs cs principal id ≡ None
unfolding open_field
open_field_past zero fs cs principal id h = refl
open_field_past (suc depth) fs cs principal id h = rw (slice_get_past fs id h) refl

-- the field of a row
pub open_field_row : (depth : ℕ) (fs : List FieldRow) (cs : List ColumnRow) (principal : Bool) (id : ℕ) (r : FieldRow) → 0 < depth
    → id < length fs → r ≡ get_or fs id r
    → open_field depth fs cs principal id ≡ field_of_row fs cs (open_field (depth - 1) fs cs) principal id r
unfolding open_field
open_field_row zero fs cs principal id r d h is = absurd (omega arith)
open_field_row (suc depth) fs cs principal id r d h is =
    let down : suc depth - 1 ≡ depth = omega arith in
    rw (down, slice_get_read fs (length fs) id r refl h is) refl

length-open_shapes : (fs : List FieldRow) (cs : List ColumnRow) (id : ℕ) (rows : List FieldRow)
    → length (open_shapes fs cs id rows) ≡ length rows
length-open_shapes fs cs id [] = refl
length-open_shapes fs cs id (r ∷ rs) = ap suc (length-open_shapes fs cs (id + 1) rs)

-- one for each field is kept
pub kept_count : {S : Type 0} (view : S → ShapeData) (shapes : List (Option S)) (fs : List FieldRow) (cs : List ColumnRow)
    → map (option_map view) shapes ≡ open_shapes fs cs 0 fs → length shapes ≡ length fs
kept_count view shapes fs cs e = sym (length-map shapes (option_map view)) ∙ (ap length e ∙ length-open_shapes fs cs 0 fs)
