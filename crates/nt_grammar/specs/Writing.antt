-- Schema descriptions in bytes (RNTuple Binary Format Specification 1.0.0.0, sections Schema Description, Field Description and
-- Column Description).
use Rattle.std.specs.Prelude.{ℕ, ◌%◌, Bool, List, [], ◌∷◌, ◌++◌, length, take, drop, ◌==◌, if◌then◌else◌}
use Rattle.std.specs.Int.{w16, w32, w64, to_le_bytes}
use Rattle.nt_format.specs.Strings.{string}
use Rattle.nt_format.specs.Frames.{record_frame, list_frame}
use Rattle.nt_grammar.specs.declared.rows.FieldRow.{FieldRow}
use Rattle.nt_grammar.specs.declared.rows.ColumnRow.{ColumnRow}
use Rattle.nt_grammar.specs.declared.part.Part.{Part}
use Rattle.nt_grammar.specs.declared.part.Part.TheVariants.{Header, Extension}
use Rattle.nt_grammar.specs.Table.{Table}

-- the numbers of a field: its version and its type's version, its parent, its role and its flags
abbrev pub field_numbers : FieldRow → List ℕ
field_numbers r = to_le_bytes w32 0 ++ (to_le_bytes w32 0 ++
    (to_le_bytes w32 r.parent ++ (to_le_bytes w16 r.role ++ to_le_bytes w16 r.flags)))

-- the texts of a field: its name, its type's name, an alias and a description
abbrev pub field_texts : FieldRow → List ℕ
field_texts r = string r.name ++ (string r.type_name ++ (string [] ++ string []))

-- the record frame of a field
abbrev pub field_record : FieldRow → List ℕ
field_record r = record_frame (field_numbers r ++ field_texts r)

-- a deferred column has the index of its first element
abbrev pub is_deferred : ℕ → Bool
is_deferred flags = flags % 2 == 1

-- the numbers of a column: its type, the bits of an element, its field, its flags and its representation
abbrev pub column_numbers : ColumnRow → List ℕ
column_numbers c = to_le_bytes w16 c.code ++ (to_le_bytes w16 c.bits ++
    (to_le_bytes w32 c.field ++ (to_le_bytes w16 c.flags ++ to_le_bytes w16 c.representation)))

-- and the index of its first element, where it is deferred
abbrev pub first_element : ColumnRow → List ℕ
first_element c = if is_deferred c.flags then to_le_bytes w64 c.first else []

-- the record frame of a column
abbrev pub column_record : ColumnRow → List ℕ
column_record c = record_frame (column_numbers c ++ first_element c)

-- fields, one after the other
abbrev pub field_records : List FieldRow → List ℕ
field_records [] = []
field_records (r ∷ rs) = field_record r ++ field_records rs

-- columns, one after the other
abbrev pub column_records : List ColumnRow → List ℕ
column_records [] = []
column_records (c ∷ cs) = column_record c ++ column_records cs

-- a description of these rows: lists of fields and of columns, and no alias columns and no extra type information
abbrev pub description : List FieldRow → List ColumnRow → List ℕ
description fields columns =
    list_frame (length fields) (field_records fields) ++
    (list_frame (length columns) (column_records columns) ++ (list_frame 0 [] ++ list_frame 0 []))

-- the fields of a part
abbrev pub part_fields : Part → Table → List FieldRow
part_fields Header t = take t.header_fields t.fields
part_fields Extension t = drop t.header_fields t.fields

-- the columns of a part
abbrev pub part_columns : Part → Table → List ColumnRow
part_columns Header t = take t.header_columns t.columns
part_columns Extension t = drop t.header_columns t.columns
