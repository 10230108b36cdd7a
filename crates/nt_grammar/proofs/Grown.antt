-- Rows behind others leave what is said of those, where none of them lies in a field before or is a column of one.
use Rattle.std.proofs.Common.{ℕ, zero, suc, Bool, true, false, ◌≡◌, ◌<◌, ◌≤◌, ◌+◌, List, [], ◌∷◌, ◌++◌, length, map, Option, Some, None}
use Rattle.std.proofs.Common.{slice_get, ◌==◌, refl, ap, ap₂, ◌∙◌, append-nil, zero-add, arith}
use Rattle.std.proofs.lemmas.Bool.Decides.{nat_tests}
use Rattle.std.proofs.lemmas.List.Elements.{filter-append}
use Rattle.std.specs.Prelude.{option_map, option_and_then, ◌&&◌, not, if◌then◌else◌}
use Rattle.std.specs.List.{AllByRecursion}
use Rattle.nt_types.specs.ShapeData.{ShapeData, MemberData}
use Rattle.nt_types.specs.Schema.{part_under}
use Rattle.nt_types.specs.declared.column_type.ColumnType.TheVariants.{Switch}
use Rattle.nt_grammar.specs.declared.rows.FieldRow.{FieldRow}
use Rattle.nt_grammar.specs.declared.rows.ColumnRow.{ColumnRow}
use Rattle.nt_grammar.specs.Codes.{leaf_role, collection_role, record_role, variant_role, most_levels}
use Rattle.nt_grammar.specs.Open.{ids_inside, columns_of_field, one_column, no_column, index_types, is_leaf, leaf_shape}
use Rattle.nt_grammar.specs.Open.{collection_shape, record_shape, choice_shape, flags_fit, shape_by_role, all_some, field_of_row}
use Rattle.nt_grammar.specs.Open.{open_field, top_shape, open_shapes}
use Rattle.nt_grammar.proofs.FieldsInside.{ids_inside-append}

-- rows of fields that lie in fields from this id on, and columns of such fields
abbrev pub LieFrom : ℕ → List FieldRow → Type 0
LieFrom n rows = AllByRecursion (λ (r : FieldRow). n ≤ r.parent) rows

abbrev pub OwnedFrom : ℕ → List ColumnRow → Type 0
OwnedFrom n rows = AllByRecursion (λ (c : ColumnRow). n ≤ c.field) rows

-- ids below this one
abbrev pub AreBelow : ℕ → List ℕ → Type 0
AreBelow n [] = Unit {0}
AreBelow n (i ∷ is) = (i < n) × AreBelow n is

pub ids_inside-below : (p id n : ℕ) (rows : List FieldRow) → id + length rows ≤ n → AreBelow n (ids_inside p id rows)
ids_inside-below p id n [] h = tt
ids_inside-below p id n (r ∷ rs) h = one ((r.parent == p) && not (id == p)) (ids_inside-below p (id + 1) n rs (omega arith))
  where
    one : (b : Bool) → AreBelow n (ids_inside p (id + 1) rs) → AreBelow n ((if b then id ∷ [] else []) ++ ids_inside p (id + 1) rs)
    one true later = (omega arith, later)
    one false later = later

pub map-below : {B : Type 0} (f g : ℕ → B) (n : ℕ) (is : List ℕ) → ((i : ℕ) → i < n → f i ≡ g i) → AreBelow n is → map f is ≡ map g is
map-below f g n [] h a = refl
map-below {B = B} f g n (i ∷ is) h a = ap₂ (λ (x : B) (xs : List B). x ∷ xs) (h i a.0) (map-below f g n is h a.1)

none-inside : (p id n : ℕ) (rows : List FieldRow) → p < n → LieFrom n rows → ids_inside p id rows ≡ []
none-inside p id n [] h a = refl
none-inside p id n (r ∷ rs) h a =
    let other : (r.parent == p) ≡ false = grind (arith, nat_tests, a.0) in
    rw other (none-inside p (id + 1) n rs h a.1)

pub ids_inside-old : (fs more : List FieldRow) (p : ℕ) → p < length fs → LieFrom (length fs) more
    → ids_inside p 0 (fs ++ more) ≡ ids_inside p 0 fs
ids_inside-old fs more p h a =
    ids_inside-append p 0 fs more ∙ (ap (λ (z : List ℕ). ids_inside p 0 fs ++ z) (none-inside p (0 + length fs) (length fs) more h a)
    ∙ append-nil (ids_inside p 0 fs))

none-owned : (p n : ℕ) (rows : List ColumnRow) → p < n → OwnedFrom n rows → columns_of_field p rows ≡ []
none-owned p n [] h a = refl
none-owned p n (c ∷ cs) h a =
    let other : (c.field == p) ≡ false = grind (arith, nat_tests, a.0) in
    rw other (none-owned p n cs h a.1)

pub columns_of_field-old : (cs more : List ColumnRow) (p n : ℕ) → p < n → OwnedFrom n more
    → columns_of_field p (cs ++ more) ≡ columns_of_field p cs
columns_of_field-old cs more p n h a =
    filter-append (λ (c : ColumnRow). c.field == p) cs more
    ∙ (ap (λ (z : List ColumnRow). columns_of_field p cs ++ z) (none-owned p n more h a) ∙ append-nil (columns_of_field p cs))

pub slice_get-old : {A : Type 0} (a b : List A) (i : ℕ) → i < length a → slice_get (a ++ b) i ≡ slice_get a i
slice_get-old [] b i h = absurd (omega arith)
slice_get-old (x ∷ a) b zero h = refl
slice_get-old (x ∷ a) b (suc i) h = slice_get-old a b i (omega arith)

pub slice_get-new : {A : Type 0} (a b : List A) (k : ℕ) → slice_get (a ++ b) (length a + k) ≡ slice_get b k
slice_get-new [] b k = ap (slice_get b) (zero-add k)
slice_get-new (x ∷ a) b k = let next : suc (length a) + k ≡ suc (length a + k) = omega arith in
    ap (slice_get (x ∷ (a ++ b))) next ∙ slice_get-new a b k

pub then-same : {A B : Type 0} (f g : A → Option B) (o : Option A) → ((x : A) → f x ≡ g x) → option_and_then f o ≡ option_and_then g o
then-same f g None h = refl
then-same f g (Some x) h = h x

-- the shape of a field by what lies inside, where that isn't a record and where it is
abbrev by_inside : Bool → FieldRow → List ColumnRow → List ℕ → Option (List MemberData) → Option (List MemberData) → Option ShapeData
by_inside up r cs js other within =
    if r.role == leaf_role then (if is_leaf js then leaf_shape up r.type_name cs else None)
    else if r.role == collection_role then (if one_column up index_types cs then option_and_then (collection_shape r.type_name) other
    else None)
    else if r.role == record_role then (if no_column cs then option_and_then record_shape within else None)
    else if r.role == variant_role then (if one_column up (Switch ∷ []) cs then option_and_then choice_shape other else None)
    else None

by_role-same : (up : Bool) (r : FieldRow) (cs : List ColumnRow) (js : List ℕ) (f g : Bool → Option (List MemberData))
    → ((b : Bool) → f b ≡ g b) → shape_by_role up r cs js f ≡ shape_by_role up r cs js g
by_role-same up r cs js f g h = ap₂ (by_inside up r cs js) (h false) (h up)

-- a field before the added rows is open as before

pub open_field-old : (fs more : List FieldRow) (cs others : List ColumnRow) → LieFrom (length fs) more → OwnedFrom (length fs) others
    → (d : ℕ) (up : Bool) (i : ℕ) → i < length fs → open_field d (fs ++ more) (cs ++ others) up i ≡ open_field d fs cs up i
unfolding open_field
open_field-old fs more cs others lie own zero up i h = refl
open_field-old fs more cs others lie own (suc d) up i h =
    let new_fs : List FieldRow = fs ++ more in
    let new_cs : List ColumnRow = cs ++ others in
    ap (option_and_then (field_of_row new_fs new_cs (open_field d new_fs new_cs) up i)) (slice_get-old fs more i h)
    ∙ then-same (field_of_row new_fs new_cs (open_field d new_fs new_cs) up i) (field_of_row fs cs (open_field d fs cs) up i)
    (slice_get fs i)
    (λ r. ap (λ (o : Option ShapeData). if flags_fit r then option_map (part_under r.name) o else None)
    (ap₂ (λ (own_cs : List ColumnRow) (js : List ℕ). shape_by_role up r own_cs js
    (λ (b : Bool). all_some (map (open_field d new_fs new_cs b) js)))
    (columns_of_field-old cs others i (length fs) h own) (ids_inside-old fs more i h lie)
    ∙ by_role-same up r (columns_of_field i cs) (ids_inside i 0 fs) (λ b. all_some (map (open_field d new_fs new_cs b) (ids_inside i 0 fs)))
    (λ b. all_some (map (open_field d fs cs b) (ids_inside i 0 fs)))
    (λ b. ap (all_some {A = MemberData}) (map-below (open_field d new_fs new_cs b) (open_field d fs cs b) (length fs) (ids_inside i 0 fs)
    (λ j lt. open_field-old fs more cs others lie own d b j lt) (ids_inside-below i 0 (length fs) fs (omega arith))))))

pub top_shape-old : (fs more : List FieldRow) (cs others : List ColumnRow) → LieFrom (length fs) more → OwnedFrom (length fs) others
    → (i : ℕ) (r : FieldRow) → i < length fs → top_shape (fs ++ more) (cs ++ others) i r ≡ top_shape fs cs i r
top_shape-old fs more cs others lie own i r h =
    ap (λ (o : Option MemberData). if r.parent == i then option_map (λ (p : MemberData). p.of) o else None)
    (open_field-old fs more cs others lie own most_levels true i h)

pub open_shapes-old : (fs more : List FieldRow) (cs others : List ColumnRow) → LieFrom (length fs) more → OwnedFrom (length fs) others
    → (id : ℕ) (rows : List FieldRow) → id + length rows ≤ length fs
    → open_shapes (fs ++ more) (cs ++ others) id rows ≡ open_shapes fs cs id rows
open_shapes-old fs more cs others lie own id [] h = refl
open_shapes-old fs more cs others lie own id (r ∷ rows) h =
    ap₂ (λ (o : Option ShapeData) (os : List (Option ShapeData)). o ∷ os) (top_shape-old fs more cs others lie own id r (omega arith))
    (open_shapes-old fs more cs others lie own (id + 1) rows (omega arith))

pub open_shapes-append : (fs : List FieldRow) (cs : List ColumnRow) (id : ℕ) (a b : List FieldRow)
    → open_shapes fs cs id (a ++ b) ≡ open_shapes fs cs id a ++ open_shapes fs cs (id + length a) b
open_shapes-append fs cs id [] b = ap (λ (i : ℕ). open_shapes fs cs i b) (omega arith)
open_shapes-append fs cs id (r ∷ a) b =
    let next : (id + 1) + length a ≡ id + suc (length a) = omega arith in
    ap (λ (z : List (Option ShapeData)). top_shape fs cs id r ∷ z) (open_shapes-append fs cs (id + 1) a b
    ∙ ap (λ (i : ℕ). open_shapes fs cs (id + 1) a ++ open_shapes fs cs i b) next)
