-- A field that is added at the end of a schema, behind entries that were written without it
-- (RNTuple Binary Format Specification 1.0.0.0, sections Schema Description, Column Description and Footer Envelope).
use Rattle.std.specs.Prelude.{ℕ, ◌≡◌, ◌+◌, Bool, true, List, [], ◌∷◌, ◌++◌, map, length, ◌==◌, ◌&&◌, if◌then◌else◌}
use Rattle.nt_types.specs.ShapeData.{ShapeData, MemberData}
use Rattle.nt_types.specs.declared.column_type.ColumnType.{ColumnType}
use Rattle.nt_types.specs.ColumnTable.{code_of, bits_of}
use Rattle.nt_grammar.specs.declared.rows.ColumnRow.{ColumnRow}
use Rattle.nt_grammar.specs.Codes.{record_role, deferred_flag}
use Rattle.nt_grammar.specs.Table.{Table}
use Rattle.nt_grammar.specs.Types.{role_of}
use Rattle.nt_grammar.specs.Columns.{column_types}
use Rattle.nt_grammar.specs.Rows.{NodeData, inside, at_top, field_row, column_row}

-- a field, and whether it is principal: all fields that it lies in are records, so that it has one value an entry
pub record MarkedData : Type 0 where
  pub node : NodeData
  pub principal : Bool

-- these fields, each with this mark
abbrev pub with_mark : Bool → List NodeData → List MarkedData
with_mark principal nodes = map (λ (n : NodeData). record { node = n; principal = principal }) nodes

-- the fields without their marks
abbrev pub nodes_of : List MarkedData → List NodeData
nodes_of marks = map (λ (m : MarkedData). m.node) marks

-- a record, which a tuple is too
abbrev pub is_record : ShapeData → Bool
is_record k = role_of k == record_role

-- the fields directly inside a field: in a record they are principal where it is, and elsewhere none is
abbrev pub marks_inside : ℕ → MarkedData → List MarkedData
marks_inside id m = with_mark (is_record m.node.of && m.principal) (inside id m.node.of)

-- the fields directly inside these, whose ids go on from this one
abbrev pub all_marks_inside : ℕ → List MarkedData → List MarkedData
all_marks_inside id [] = []
all_marks_inside id (m ∷ ms) = marks_inside id m ++ all_marks_inside (id + 1) ms

-- all fields from an id on, breadth first; those at the top level are principal
abbrev pub AreMarked : ℕ → List MemberData → List MarkedData → Type 0
AreMarked id ps marks = marks ≡ with_mark true (at_top id ps) ++ all_marks_inside id marks

-- a column of this field whose first element is that of this entry; behind entry 0 it is deferred
abbrev pub late_row : ℕ → ℕ → ColumnType → ColumnRow
late_row first id t = record {
  code = code_of t;
  bits = bits_of t;
  field = id;
  flags = if first == 0 then 0 else deferred_flag;
  representation = 0;
  first = first;
}

-- the columns of a field, the first of which begins with this entry; the second one, of the bytes of a text, isn't principal
abbrev pub late_rows : ℕ → ℕ → List ColumnType → List ColumnRow
late_rows first id [] = []
late_rows first id (t ∷ ts) = late_row first id t ∷ map (column_row id) ts

-- the entry with which the columns of a field begin that is added behind so many: it counts for principal ones alone
abbrev pub first_of : ℕ → Bool → ℕ
first_of entries principal = if principal then entries else 0

-- the columns of these fields, whose ids go on from this one
abbrev pub added_rows : Bool → ℕ → ℕ → List MarkedData → List ColumnRow
added_rows plain entries id [] = []
added_rows plain entries id (m ∷ ms) =
    late_rows (first_of entries m.principal) id (column_types plain m.node.of) ++ added_rows plain entries (id + 1) ms

-- the table with one more field at the top level, behind all its rows and so many entries; its header stays
pub record Added (t : Table) (field : MemberData) (plain : Bool) (entries : ℕ) (new : Table) : Type 0 where
  pub marks : List MarkedData
  pub order : AreMarked (length t.fields) (field ∷ []) marks
  pub field_rows : new.fields ≡ t.fields ++ map field_row (nodes_of marks)
  pub columns_by_field : new.columns ≡ t.columns ++ added_rows plain entries (length t.fields) marks
  pub header_fields : new.header_fields ≡ t.header_fields
  pub header_columns : new.header_columns ≡ t.header_columns
