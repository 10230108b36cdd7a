-- The fields that are open, which is to say that their values can be read, and the shapes of those values.
-- A field at the top level is open where it and all fields inside it follow this table, and closed otherwise
-- (RNTuple Binary Format Specification 1.0.0.0, sections Field Description, Column Description and Mapping of C++ Types to Fields
-- and Columns).
use Rattle.std.specs.Prelude.{ℕ, zero, suc, ◌+◌, Bool, true, false, List, [], ◌∷◌, ◌++◌, map, filter, find, Option, Some, None, option_map}
use Rattle.std.specs.Prelude.{option_and_then, take, slice_get, nat_le, nat_lt, ◌==◌, ◌&&◌, ◌||◌, not, codes, if◌then◌else◌}
use Rattle.std.specs.List.{list_any}
use Rattle.std.specs.Str.{bytes_eq}
use Rattle.nt_types.specs.ShapeData.{ShapeData, MemberData, bool, char, byte, int, text, list, maybe, fields, choice, kinds_of, parts_of}
use Rattle.nt_types.specs.ShapeData.{takes_nothing}
use Rattle.nt_types.specs.Schema.{part_under}
use Rattle.nt_types.specs.ColumnTable.{code_of, bits_of}
use Rattle.nt_types.specs.declared.column_type.ColumnType.{ColumnType}
use Rattle.nt_types.specs.declared.column_type.ColumnType.TheVariants.{Char, Index32, Index64, SplitIndex32, SplitIndex64, Switch}
use Rattle.nt_grammar.specs.declared.rows.FieldRow.{FieldRow}
use Rattle.nt_grammar.specs.declared.rows.ColumnRow.{ColumnRow}
use Rattle.nt_grammar.specs.Codes.{leaf_role, collection_role, record_role, variant_role, checksum_flag, deferred_flag, suppressed}
use Rattle.nt_grammar.specs.Codes.{most_levels}
use Rattle.nt_grammar.specs.Table.{Table}
use Rattle.nt_grammar.specs.Types.{cpp_name}
use Rattle.nt_grammar.specs.Columns.{column_types}

-- the ids of the fields that lie in a field, in order; a field at the top level names itself as parent, and doesn't lie in itself
abbrev pub ids_inside : ℕ → ℕ → List FieldRow → List ℕ
ids_inside parent id [] = []
ids_inside parent id (r ∷ rs) = (if (r.parent == parent) && not (id == parent) then id ∷ [] else []) ++ ids_inside parent (id + 1) rs

-- the columns of a field, in order
abbrev pub columns_of_field : ℕ → List ColumnRow → List ColumnRow
columns_of_field id cs = filter (λ c. c.field == id) cs

-- a column of one of these types, of the first representation and not of a range; only a principal one begins behind entry 0
abbrev pub column_fits : Bool → List ColumnType → ColumnRow → Bool
column_fits principal types c =
    list_any (λ t. (c.code == code_of t) && (c.bits == bits_of t)) types &&
    (c.representation == 0) && nat_le c.flags deferred_flag && nat_lt c.first suppressed && (principal || (c.first == 0))

-- exactly one column, of one of these types
abbrev pub one_column : Bool → List ColumnType → List ColumnRow → Bool
one_column principal types (c ∷ []) = column_fits principal types c
one_column principal types [] = false
one_column principal types (c ∷ d ∷ cs) = false

-- the field has none
abbrev pub no_column : List ColumnRow → Bool
no_column [] = true
no_column (c ∷ cs) = false

-- the ends of collections and texts
abbrev pub index_types : List ColumnType
index_types = Index32 ∷ Index64 ∷ SplitIndex32 ∷ SplitIndex64 ∷ []

-- the ends of texts, and then their bytes, which aren't principal
abbrev pub text_columns : Bool → List ColumnRow → Bool
text_columns principal (c ∷ d ∷ []) = column_fits principal index_types c && column_fits false (Char ∷ []) d
text_columns principal [] = false
text_columns principal (c ∷ []) = false
text_columns principal (c ∷ d ∷ e ∷ cs) = false

-- integers of each width
abbrev pub integers : List ShapeData
integers = int 8 true ∷ int 8 false ∷ int 16 true ∷ int 16 false ∷ int 32 true ∷ int 32 false ∷ int 64 true ∷ int 64 false ∷ []

-- the leaves that have one column
abbrev pub leaves : List ShapeData
leaves = bool ∷ char ∷ byte ∷ integers

-- a leaf is of its own type, plain or split
abbrev pub leaf_types : ShapeData → List ColumnType
leaf_types k = column_types true k ++ column_types false k

-- a leaf, where its column fits
abbrev pub leaf_with : Bool → List ColumnRow → ShapeData → Option ShapeData
leaf_with principal cs k = if one_column principal (leaf_types k) cs then Some k else None

-- one of these leaves, by its type name
abbrev pub named_leaf : List ShapeData → Bool → List ℕ → List ColumnRow → Option ShapeData
named_leaf kinds principal name cs = option_and_then (leaf_with principal cs) (find (λ k. bytes_eq name (cpp_name k)) kinds)

-- a leaf, by its type name
abbrev pub leaf_shape : Bool → List ℕ → List ColumnRow → Option ShapeData
leaf_shape principal name cs =
    if bytes_eq name (codes "std::string") then (if text_columns principal cs then Some text else None)
    else named_leaf leaves principal name cs

-- whether a type name is that of an optional
abbrev pub is_optional : List ℕ → Bool
is_optional name = bytes_eq (take 14 name) (codes "std::optional<")

-- a collection has one field inside; it is an optional where its type name is, of values that are never nothing themselves
abbrev pub collection_shape : List ℕ → List MemberData → Option ShapeData
collection_shape name (p ∷ []) = Some (if is_optional name && not (takes_nothing p.of) then maybe p.of else list p.of)
collection_shape name [] = None
collection_shape name (p ∷ q ∷ ps) = None

-- a record has one field inside at least; a tuple is one too
abbrev pub record_shape : List MemberData → Option ShapeData
record_shape [] = None
record_shape (p ∷ ps) = Some (fields (parts_of (p ∷ ps)))

-- a choice has one field inside at least
abbrev pub choice_shape : List MemberData → Option ShapeData
choice_shape [] = None
choice_shape (p ∷ ps) = Some (choice (kinds_of (map (λ (q : MemberData). q.of) (p ∷ ps))))

-- no flags, but of a record the one that it has its type's checksum
abbrev pub flags_fit : FieldRow → Bool
flags_fit r = (r.flags == 0) || ((r.flags == checksum_flag) && (r.role == record_role))

-- no field lies inside
abbrev pub is_leaf : List ℕ → Bool
is_leaf [] = true
is_leaf (j ∷ js) = false

-- the shape of a field, by its role, its columns and the fields inside; principal is what only records surround
abbrev pub shape_by_role : Bool → FieldRow → List ColumnRow → List ℕ → (Bool → Option (List MemberData)) → Option ShapeData
shape_by_role principal r cs js inside =
    if r.role == leaf_role then (if is_leaf js then leaf_shape principal r.type_name cs else None)
    else if r.role == collection_role then (if one_column principal index_types cs then option_and_then (collection_shape r.type_name)
    (inside false) else None)
    else if r.role == record_role then (if no_column cs then option_and_then record_shape (inside principal) else None)
    else if r.role == variant_role then (if one_column principal (Switch ∷ []) cs then option_and_then choice_shape
    (inside false) else None)
    else None

-- all of these, if there is none that isn't there
abbrev pub all_some : {A : Type 0} → List (Option A) → Option (List A)
all_some [] = Some []
all_some (None ∷ os) = None
all_some (Some x ∷ os) = option_map (λ xs. x ∷ xs) (all_some os)

-- the name and the shape of the field of a row, where those below are open
abbrev pub field_of_row : List FieldRow → List ColumnRow → (Bool → ℕ → Option MemberData) → Bool → ℕ → FieldRow → Option MemberData
field_of_row fs cs below principal id r =
    if flags_fit r then option_map (part_under r.name)
    (shape_by_role principal r (columns_of_field id cs) (ids_inside id 0 fs)
    (λ up. all_some (map (below up) (ids_inside id 0 fs)))) else None

-- the name and the shape of a field of at most so much depth
unfoldable pub open_field : ℕ → List FieldRow → List ColumnRow → Bool → ℕ → Option MemberData
open_field zero fs cs principal id = None
open_field (suc depth) fs cs principal id = option_and_then (field_of_row fs cs (open_field depth fs cs) principal id) (slice_get fs id)

-- the shape of a field at the top level, of at most so many levels
abbrev pub top_shape : List FieldRow → List ColumnRow → ℕ → FieldRow → Option ShapeData
top_shape fs cs id r = if r.parent == id then option_map (λ (p : MemberData). p.of) (open_field most_levels fs cs true id) else None

-- the shape of a field, where it is at the top level and open
abbrev pub open_shape : Table → ℕ → Option ShapeData
open_shape t id = option_and_then (top_shape t.fields t.columns id) (slice_get t.fields id)

-- the shapes of all fields, of which these go on from this id
abbrev pub open_shapes : List FieldRow → List ColumnRow → ℕ → List FieldRow → List (Option ShapeData)
open_shapes fs cs id [] = []
open_shapes fs cs id (r ∷ rs) = top_shape fs cs id r ∷ open_shapes fs cs (id + 1) rs
