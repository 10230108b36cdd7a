-- The rows that describe fields: breadth first, with the columns by field
-- (RNTuple Binary Format Specification 1.0.0.0, sections Field Description and Column Description).
use Rattle.std.specs.Prelude.{ℕ, ◌≡◌, ◌+◌, Bool, List, [], ◌∷◌, ◌++◌, map, length}
use Rattle.std.specs.Fmt.{decimal}
use Rattle.nt_types.specs.ShapeData.{ShapeData, ShapesData, MembersData, MemberData, bool, char, byte, int, text, list, maybe, fields}
use Rattle.nt_types.specs.ShapeData.{tuple, choice, no_kinds, kind, no_parts, part}
use Rattle.nt_types.specs.ColumnTable.{code_of, bits_of}
use Rattle.nt_types.specs.declared.column_type.ColumnType.{ColumnType}
use Rattle.nt_grammar.specs.declared.rows.FieldRow.{FieldRow}
use Rattle.nt_grammar.specs.declared.rows.ColumnRow.{ColumnRow}
use Rattle.nt_grammar.specs.Table.{Table}
use Rattle.nt_grammar.specs.Types.{type_name, role_of}
use Rattle.nt_grammar.specs.Columns.{column_types}

-- a field of a shape, with a name, inside a parent
pub record NodeData : Type 0 where
  pub parent : ℕ
  pub name : List ℕ
  pub of : ShapeData

-- a field that has no name of its own is named by its place
abbrev pub place_name : ℕ → List ℕ
place_name i = 95 ∷ decimal i

-- the members of a record
abbrev pub members_in : ℕ → MembersData → List NodeData
members_in id no_parts = []
members_in id (part n k ps) = record { parent = id; name = n; of = k } ∷ members_in id ps

-- fields that are named by their places, from this one on
abbrev pub places_in : ℕ → ℕ → ShapesData → List NodeData
places_in id i no_kinds = []
places_in id i (kind k ks) = record { parent = id; name = place_name i; of = k } ∷ places_in id (i + 1) ks

-- the fields directly inside a field of this id and shape, in order
abbrev pub inside : ℕ → ShapeData → List NodeData
inside id bool = []
inside id char = []
inside id byte = []
inside id (int bits signed) = []
inside id text = []
inside id (list k) = record { parent = id; name = place_name 0; of = k } ∷ []
inside id (maybe k) = record { parent = id; name = place_name 0; of = k } ∷ []
inside id (fields ps) = members_in id ps
inside id (tuple ks) = places_in id 0 ks
inside id (choice ks) = places_in id 0 ks

-- the fields directly inside these, whose ids go on from this one: in the order of their parents
abbrev pub all_inside : ℕ → List NodeData → List NodeData
all_inside id [] = []
all_inside id (n ∷ ns) = inside id n.of ++ all_inside (id + 1) ns

-- fields at the top level, which are their own parents
abbrev pub at_top : ℕ → List MemberData → List NodeData
at_top id [] = []
at_top id (p ∷ ps) = record { parent = id; name = p.name; of = p.of } ∷ at_top (id + 1) ps

-- all fields from an id on: those at the top level, and behind them those inside each field, by its id
abbrev pub AreNodesFrom : ℕ → List MemberData → List NodeData → Type 0
AreNodesFrom id ps nodes = nodes ≡ at_top id ps ++ all_inside id nodes

-- all fields
abbrev pub AreNodes : List MemberData → List NodeData → Type 0
AreNodes ps nodes = AreNodesFrom 0 ps nodes

-- the row of a field
abbrev pub field_row : NodeData → FieldRow
field_row n = record { parent = n.parent; role = role_of n.of; flags = 0; name = n.name; type_name = type_name n.of }

-- the row of a column of this field, which starts with the first entry
abbrev pub column_row : ℕ → ColumnType → ColumnRow
column_row id t = record { code = code_of t; bits = bits_of t; field = id; flags = 0; representation = 0; first = 0 }

-- the columns of these fields, whose ids go on from this one
abbrev pub column_rows : Bool → ℕ → List NodeData → List ColumnRow
column_rows plain id [] = []
column_rows plain id (n ∷ ns) = map (column_row id) (column_types plain n.of) ++ column_rows plain (id + 1) ns

-- the rows describe these fields, and all of them stand in the header
pub record Rows (ps : List MemberData) (plain : Bool) (t : Table) : Type 0 where
  pub nodes : List NodeData
  pub order : AreNodes ps nodes
  pub field_rows : t.fields ≡ map field_row nodes
  pub columns_by_field : t.columns ≡ column_rows plain 0 nodes
  pub fields_in_header : t.header_fields ≡ length t.fields
  pub columns_in_header : t.header_columns ≡ length t.columns
