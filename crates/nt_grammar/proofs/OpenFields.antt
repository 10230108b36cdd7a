-- Fields whose rows stand where those of described fields do are open.
use Rattle.std.proofs.Common.{ℕ, zero, suc, Bool, true, false, ◌≡◌, ◌<◌, ◌≤◌, ◌+◌, ◌^◌, List, [], ◌∷◌, ◌++◌, length, map, drop}
use Rattle.std.proofs.Common.{max, Option, Some, None, slice_get, ◌==◌, refl, sym, ap, ◌∙◌, subst, zero-add, arith}
use Rattle.std.proofs.lemmas.Bool.Decides.{nat_tests}
use Rattle.std.specs.Prelude.{option_map, option_and_then, nat_le, nat_lt, find, codes, ◌&&◌, if◌then◌else◌}
use Rattle.std.specs.Str.{bytes_eq}
use Rattle.nt_types.specs.ShapeData.{ShapeData, ShapesData, MembersData, MemberData, bool, char, byte, int, text, list, maybe, fields}
use Rattle.nt_types.specs.ShapeData.{tuple, choice, no_kinds, kind, no_parts, part}
use Rattle.nt_types.specs.Spelling.{depth, deepest_kind, deepest_part}
use Rattle.nt_types.specs.Schema.{part_under}
use Rattle.nt_types.specs.declared.column_type.ColumnType.{ColumnType}
use Rattle.nt_types.specs.declared.column_type.ColumnType.TheVariants.{Char, Switch}
use Rattle.nt_grammar.specs.declared.rows.FieldRow.{FieldRow}
use Rattle.nt_grammar.specs.declared.rows.ColumnRow.{ColumnRow}
use Rattle.nt_grammar.specs.Codes.{deferred_flag, suppressed, leaf_role, collection_role, record_role, variant_role}
use Rattle.nt_grammar.specs.Types.{cpp_name}
use Rattle.nt_grammar.specs.Columns.{column_types}
use Rattle.nt_grammar.specs.Rows.{NodeData, AreNodesFrom, inside, members_in, places_in, all_inside, field_row, column_row}
use Rattle.nt_grammar.specs.Added.{is_record, late_row, late_rows, first_of}
use Rattle.nt_grammar.specs.Open.{ids_inside, columns_of_field, column_fits, one_column, no_column, text_columns, leaf_types, leaf_with}
use Rattle.nt_grammar.specs.Open.{named_leaf, all_some, leaf_shape, collection_shape, record_shape, choice_shape, is_leaf, index_types}
use Rattle.nt_grammar.specs.Open.{leaves, shape_by_role, open_field}
use Rattle.nt_grammar.proofs.AllNodes.{AllNodes, IsField}
use Rattle.nt_grammar.proofs.Inside.{before, count_up, cut-inside}
use Rattle.nt_grammar.proofs.Added.{late_rows-zero}
use Rattle.nt_grammar.proofs.OpenShapes.{read_part, opened, shape-open}

-- how deep the fields inside of one are

depth-some : (k : ShapeData) → 0 < depth k
depth-some bool = omega arith
depth-some char = omega arith
depth-some byte = omega arith
depth-some (int bits signed) = omega arith
depth-some text = omega arith
depth-some (list k) = omega arith
depth-some (maybe k) = omega arith
depth-some (fields ps) = omega arith
depth-some (tuple ks) = omega arith
depth-some (choice ks) = omega arith

abbrev Shallow : ℕ → NodeData → Type 0
Shallow most n = depth n.of ≤ most

pub max-parts : (a b n : ℕ) → max a b ≤ n → (a ≤ n) × (b ≤ n)
max-parts a b n h = (grind (arith, nat_tests), grind (arith, nat_tests))

members-shallow : (id most : ℕ) (ps : MembersData) → deepest_part ps ≤ most → AllNodes (Shallow most) (members_in id ps)
members-shallow id most no_parts h = tt
members-shallow id most (part n k ps) h = let both = max-parts (depth k) (deepest_part ps) most h in
    (both.0, members-shallow id most ps both.1)

places-shallow : (id i most : ℕ) (ks : ShapesData) → deepest_kind ks ≤ most → AllNodes (Shallow most) (places_in id i ks)
places-shallow id i most no_kinds h = tt
places-shallow id i most (kind k ks) h = let both = max-parts (depth k) (deepest_kind ks) most h in
    (both.0, places-shallow id (i + 1) most ks both.1)

inside-shallow : (id most : ℕ) (k : ShapeData) → depth k ≤ suc most → AllNodes (Shallow most) (inside id k)
inside-shallow id most bool h = tt
inside-shallow id most char h = tt
inside-shallow id most byte h = tt
inside-shallow id most (int bits signed) h = tt
inside-shallow id most text h = tt
inside-shallow id most (list k) h = (omega arith, tt)
inside-shallow id most (maybe k) h = (omega arith, tt)
inside-shallow id most (fields ps) h = members-shallow id most ps (omega arith)
inside-shallow id most (tuple ks) h = places-shallow id 0 most ks (omega arith)
inside-shallow id most (choice ks) h = places-shallow id 0 most ks (omega arith)

pub AllNodes-get : (P : NodeData → Type 0) (ns : List NodeData) (k : ℕ) (n : NodeData) → AllNodes P ns → slice_get ns k ≡ Some n → P n
AllNodes-get P [] k n a is = cc
AllNodes-get P (m ∷ ns) zero n a is = let same : m ≡ n = cc in subst P same a.0
AllNodes-get P (m ∷ ns) (suc k) n a is = AllNodes-get P ns k n a.1 is

-- where a field stands among all

pub slice_get-front : (a b : List NodeData) (k : ℕ) (n : NodeData) → slice_get a k ≡ Some n → slice_get (a ++ b) k ≡ Some n
slice_get-front [] b k n is = cc
slice_get-front (m ∷ a) b zero n is = is
slice_get-front (m ∷ a) b (suc k) n is = slice_get-front a b k n is

pub slice_get-behind : (a b : List NodeData) (k : ℕ) → slice_get (a ++ b) (length a + k) ≡ slice_get b k
slice_get-behind [] b k = ap (slice_get b) (zero-add k)
slice_get-behind (m ∷ a) b k = let next : suc (length a) + k ≡ suc (length a + k) = omega arith in
    ap (slice_get (m ∷ (a ++ b))) next ∙ slice_get-behind a b k

-- a child of a field
child : (from : ℕ) (ps : List MemberData) (nodes : List NodeData) (i : ℕ) (n : NodeData) (k : ℕ) (c : NodeData)
    → AreNodesFrom from ps nodes → slice_get nodes i ≡ Some n → slice_get (inside (from + i) n.of) k ≡ Some c
    → slice_get nodes (length (before from ps nodes i) + k) ≡ Some c
child from ps nodes i n k c e is in_it =
    ap (λ (z : List NodeData). slice_get z (length (before from ps nodes i) + k)) (cut-inside from ps nodes i n e is)
    ∙ (slice_get-behind (before from ps nodes i) (inside (from + i) n.of ++ all_inside ((from + i) + 1) (drop (i + 1) nodes)) k
    ∙ slice_get-front (inside (from + i) n.of) (all_inside ((from + i) + 1) (drop (i + 1) nodes)) k c in_it)

-- columns that begin behind some entries

flag-fits : (b : Bool) → nat_le (if b then 0 else deferred_flag) deferred_flag ≡ true
flag-fits true = refl
flag-fits false = refl

late-fits : (first i : ℕ) (t : ColumnType) (types : List ColumnType) → first < 2 ^ 63
    → column_fits true types (late_row first i t) ≡ column_fits true types (column_row i t)
late-fits first i t types few =
    let flag : nat_le (if first == 0 then 0 else deferred_flag) deferred_flag ≡ true = flag-fits (first == 0) in
    let below : nat_lt first suppressed ≡ true = grind (arith, nat_tests) in
    rw (flag, below) refl

then-same : {A B : Type 0} (f g : A → Option B) (o : Option A) → ((x : A) → f x ≡ g x) → option_and_then f o ≡ option_and_then g o
then-same f g None h = refl
then-same f g (Some x) h = h x

late-one : (first i : ℕ) (ts types : List ColumnType) → first < 2 ^ 63
    → one_column true types (late_rows first i ts) ≡ one_column true types (map (column_row i) ts)
late-one first i [] types few = refl
late-one first i (t ∷ []) types few = late-fits first i t types few
late-one first i (t ∷ u ∷ ts) types few = refl

late-none : (first i : ℕ) (ts : List ColumnType) → no_column (late_rows first i ts) ≡ no_column (map (column_row i) ts)
late-none first i [] = refl
late-none first i (t ∷ ts) = refl

late-text : (first i : ℕ) (ts : List ColumnType) → first < 2 ^ 63
    → text_columns true (late_rows first i ts) ≡ text_columns true (map (column_row i) ts)
late-text first i [] few = refl
late-text first i (t ∷ []) few = refl
late-text first i (t ∷ u ∷ []) few =
    ap (λ (b : Bool). b && column_fits false (Char ∷ []) (column_row i u)) (late-fits first i t index_types few)
late-text first i (t ∷ u ∷ v ∷ ts) few = refl

late-leaf : (first i : ℕ) (ts : List ColumnType) (name : List ℕ) → first < 2 ^ 63
    → leaf_shape true name (late_rows first i ts) ≡ leaf_shape true name (map (column_row i) ts)
late-leaf first i ts name few =
    let late : List ColumnRow = late_rows first i ts in
    let own : List ColumnRow = map (column_row i) ts in
    ap (λ (b : Bool). if bytes_eq name (codes "std::string") then (if b then Some text else None)
    else named_leaf leaves true name late) (late-text first i ts few)
    ∙ ap (λ (o : Option ShapeData). if bytes_eq name (codes "std::string") then (if text_columns true own then Some text else None) else o)
    (then-same (leaf_with true late) (leaf_with true own) (find (λ k. bytes_eq name (cpp_name k)) leaves)
    (λ k. ap (λ (b : Bool). if b then Some k else None) (late-one first i ts (leaf_types k) few)))

-- the shape of a field by what its role asks of its columns
abbrev by_parts : FieldRow → List ℕ → Bool → (Bool → Option (List MemberData)) → Option ShapeData → Bool → Bool → Bool → Option ShapeData
by_parts r js up inside leaf ends none tags =
    if r.role == leaf_role then (if is_leaf js then leaf else None)
    else if r.role == collection_role then (if ends then option_and_then (collection_shape r.type_name) (inside false)
    else None)
    else if r.role == record_role then (if none then option_and_then record_shape (inside up) else None)
    else if r.role == variant_role then (if tags then option_and_then choice_shape (inside false) else None)
    else None

late-shape : (first i : ℕ) (ts : List ColumnType) (r : FieldRow) (js : List ℕ) (inside : Bool → Option (List MemberData)) → first < 2 ^ 63
    → shape_by_role true r (late_rows first i ts) js inside ≡ shape_by_role true r (map (column_row i) ts) js inside
late-shape first i ts r js inside few =
    let late : List ColumnRow = late_rows first i ts in
    let own : List ColumnRow = map (column_row i) ts in
    ap (λ (o : Option ShapeData). by_parts r js true inside o (one_column true index_types late) (no_column late)
    (one_column true (Switch ∷ []) late)) (late-leaf first i ts r.type_name few)
    ∙ (ap (λ (b : Bool). by_parts r js true inside (leaf_shape true r.type_name own) b (no_column late)
    (one_column true (Switch ∷ []) late)) (late-one first i ts index_types few)
    ∙ (ap (λ (b : Bool). by_parts r js true inside (leaf_shape true r.type_name own) (one_column true index_types own) b
    (one_column true (Switch ∷ []) late)) (late-none first i ts)
    ∙ ap (λ (b : Bool). by_parts r js true inside (leaf_shape true r.type_name own) (one_column true index_types own) (no_column own) b)
    (late-one first i ts (Switch ∷ []) few)))

-- the columns of a field have the same meaning where they are deferred
shape-late : (up : Bool) (entries i : ℕ) (ts : List ColumnType) (r : FieldRow) (js : List ℕ) (inside : Bool → Option (List MemberData))
    → entries < 2 ^ 63 → shape_by_role up r (late_rows (first_of entries up) i ts) js inside
    ≡ shape_by_role up r (map (column_row i) ts) js inside
shape-late true entries i ts r js inside few = late-shape entries i ts r js inside few
shape-late false entries i ts r js inside few =
    ap (λ (cs : List ColumnRow). shape_by_role false r cs js inside) (late_rows-zero i ts)

-- rows of fields and columns in which listed fields stand from an id on, with their columns; those of an index that are marked so
-- begin behind so many entries
pub record Stands (fs : List FieldRow) (cs : List ColumnRow) (from : ℕ) (ps : List MemberData) (nodes : List NodeData) (plain : Bool)
    (entries : ℕ) (IsMarked : ℕ → Bool → Type 0) : Type 0 where
  pub order : AreNodesFrom from ps nodes
  pub rules : AllNodes IsField nodes
  pub few : entries < 2 ^ 63
  pub rows : (i : ℕ) (n : NodeData) → slice_get nodes i ≡ Some n → slice_get fs (from + i) ≡ Some (field_row n)
  pub ids : (i : ℕ) (n : NodeData) → slice_get nodes i ≡ Some n
      → ids_inside (from + i) 0 fs ≡ count_up (from + length (before from ps nodes i)) (length (inside (from + i) n.of))
  pub columns : (i : ℕ) (n : NodeData) (up : Bool) → slice_get nodes i ≡ Some n → IsMarked i up
      → columns_of_field (from + i) cs ≡ late_rows (first_of entries up) (from + i) (column_types plain n.of)
  pub marks : (i : ℕ) (n : NodeData) (up : Bool) (k : ℕ) (c : NodeData) → slice_get nodes i ≡ Some n → IsMarked i up
      → slice_get (inside (from + i) n.of) k ≡ Some c → IsMarked (length (before from ps nodes i) + k) (is_record n.of && up)

-- they are open, at any depth
pub field-open : (fs : List FieldRow) (cs : List ColumnRow) (from : ℕ) (ps : List MemberData) (nodes : List NodeData) (plain : Bool)
    (entries : ℕ) (IsMarked : ℕ → Bool → Type 0) → Stands fs cs from ps nodes plain entries IsMarked
    → (d i : ℕ) (up : Bool) (n : NodeData) → slice_get nodes i ≡ Some n → IsMarked i up → depth n.of ≤ d
    → open_field d fs cs up (from + i) ≡ Some (read_part n)
unfolding open_field
field-open fs cs from ps nodes plain entries IsMarked s zero i up n is m h =
    let some : 0 < depth n.of = depth-some n.of in absurd (omega arith)
field-open fs cs from ps nodes plain entries IsMarked s (suc d) i up n is m h =
    let start : ℕ = length (before from ps nodes i) in
    let below : Bool = is_record n.of && up in
    let types : List ColumnType = column_types plain n.of in
    let ids : List ℕ = count_up (from + start) (length (inside (from + i) n.of)) in
    let within : Bool → Option (List MemberData) = λ b. all_some (map (open_field d fs cs b) ids) in
    let shallow : AllNodes (Shallow d) (inside (from + i) n.of) = inside-shallow (from + i) d n.of h in
    let inner : within below ≡ Some (map read_part (inside (from + i) n.of)) =
    opened (open_field d fs cs below) (from + start) (inside (from + i) n.of)
    (λ k c in_it. let place : from + (start + k) ≡ (from + start) + k = omega arith in
    ap (open_field d fs cs below) (sym place)
    ∙ field-open fs cs from ps nodes plain entries IsMarked s d (start + k) below c (child from ps nodes i n k c s.order is in_it)
    (s.marks i n up k c is m in_it) (AllNodes-get (Shallow d) (inside (from + i) n.of) k c shallow in_it)) in
    let f : IsField n = AllNodes-get IsField nodes i n s.rules is in
    rw (s.rows i n is, s.ids i n is, s.columns i n up is m) (ap (option_map (part_under n.name))
    (shape-late up entries (from + i) types (field_row n) ids within s.few
    ∙ shape-open up plain (from + i) (from + start) n.parent n.name f.within n.of f.typed within inner))
