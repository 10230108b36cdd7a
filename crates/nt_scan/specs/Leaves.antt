-- The number leaves of a schema: of open fields those with one column of integers, characters or bytes
-- (RNTuple Binary Format Specification 1.0.0.0, sections Field Description and Column Description).
use Rattle.std.specs.Prelude.{ℕ, ◌+◌, List, [], ◌∷◌, map, Option, Some, None, ◌==◌, if◌then◌else◌, slice_get, option_and_then, IsSome}
use Rattle.nt_types.specs.declared.column_type.ColumnType.{ColumnType}
use Rattle.nt_types.specs.declared.column_type.ColumnType.TheVariants.{Byte}
use Rattle.nt_grammar.specs.Table.{Table}
use Rattle.nt_grammar.specs.Codes.{leaf_role}
use Rattle.nt_grammar.specs.declared.rows.FieldRow.{FieldRow}
use Rattle.nt_plans.specs.Plan.{has_any}
use Rattle.nt_plans.specs.Place.{column_ids, open_plans}
use Rattle.nt_file_meaning.specs.Clusters.{kind_of_code}
use Rattle.nt_total.specs.Totals.{is_integral}
use Rattle.nt_scan.specs.declared.leaf.Leaf.{Leaf}

-- a type whose values are integers, characters or bytes
abbrev pub integral_kind : Option ColumnType → Option ColumnType
integral_kind None = None
integral_kind (Some kind) = if is_integral kind then Some kind else None

-- the type of a column, if it is there and is such a one
abbrev pub number_kind : Table → ℕ → Option ColumnType
number_kind t column = integral_kind (option_and_then (λ row. kind_of_code row.code) (slice_get t.columns column))

-- a column is there, and its values are integers, characters or bytes
abbrev pub IsNumberColumn : Table → ℕ → Type 0
IsNumberColumn t column = IsSome (number_kind t column)

-- a type, or that of bytes where there is none
abbrev pub kind_or_byte : Option ColumnType → ColumnType
kind_or_byte None = Byte
kind_or_byte (Some kind) = kind

-- the type of a column of numbers
abbrev pub column_kind : Table → ℕ → ColumnType
column_kind t column = kind_or_byte (number_kind t column)

-- the leaf of a field with a column of this type, if it has such
abbrev pub leaf_of_kind : ℕ → ℕ → Option ColumnType → Option Leaf
leaf_of_kind id column None = None
leaf_of_kind id column (Some kind) = Some (record { field = id; column = column })

-- the leaf of a field with these columns: it has one, which is of an open field
abbrev pub leaf_of_columns : Table → ℕ → List ℕ → Option Leaf
leaf_of_columns t id [] = None
leaf_of_columns t id (c ∷ []) = if has_any (open_plans t) c then leaf_of_kind id c (number_kind t c) else None
leaf_of_columns t id (c ∷ d ∷ cs) = None

-- the leaf that a field is
abbrev pub leaf_of_row : Table → ℕ → FieldRow → Option Leaf
leaf_of_row t id r = if r.role == leaf_role then leaf_of_columns t id (column_ids id 0 t.columns) else None

-- a leaf before others, if there is one
abbrev pub with_leaf : Option Leaf → List Leaf → List Leaf
with_leaf None leaves = leaves
with_leaf (Some leaf) leaves = leaf ∷ leaves

-- the leaves among fields that go on from this id
abbrev pub leaves_from : Table → ℕ → List FieldRow → List Leaf
leaves_from t id [] = []
leaves_from t id (r ∷ rs) = with_leaf (leaf_of_row t id r) (leaves_from t (id + 1) rs)

-- all number leaves, in the order of the fields' ids
abbrev pub leaves_of : Table → List Leaf
leaves_of t = leaves_from t 0 t.fields

-- their columns
abbrev pub leaf_columns : List Leaf → List ℕ
leaf_columns leaves = map (λ (l : Leaf). l.column) leaves
