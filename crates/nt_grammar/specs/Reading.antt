-- Schema descriptions read from bytes (RNTuple Binary Format Specification 1.0.0.0, sections Schema Description, Field Description and
-- Column Description). A reading answers the rows and the place behind them, or the first fault in the order of the bytes; what a frame has
-- behind the contents that are known is skipped.
use Rattle.std.specs.Prelude.{ℕ, zero, suc, List, [], ◌∷◌, ◌++◌, length, nat_le, nat_lt, if◌then◌else◌, Result, Ok, Err}
use Rattle.std.specs.Int.{w16, w32, w64}
use Rattle.nt_num.specs.Place.{At}
use Rattle.nt_num.specs.Cursor.{little}
use Rattle.nt_num.specs.Codes.{bad_field, bad_column}
use Rattle.nt_num.specs.Faults.{fault, with_values}
use Rattle.nt_num.specs.declared.fault.ReadError.{ReadError}
use Rattle.nt_lists.specs.Chaining.{◌>>=◌}
use Rattle.nt_format.specs.Reading.{placed}
use Rattle.nt_format.specs.Strings.{string_at}
use Rattle.nt_format.specs.Frames.{record_at, list_at}
use Rattle.nt_grammar.specs.declared.rows.FieldRow.{FieldRow}
use Rattle.nt_grammar.specs.declared.rows.ColumnRow.{ColumnRow}
use Rattle.nt_grammar.specs.declared.part.Part.{Part}
use Rattle.nt_grammar.specs.declared.part.Part.TheVariants.{Header, Extension}
use Rattle.nt_grammar.specs.Table.{Table, table_of, in_header}
use Rattle.nt_grammar.specs.Writing.{is_deferred}

-- the parent of the field with this id, whose record frame begins at that place; the versions of the field and of its type come before it
unfoldable pub parent_at : ℕ → ℕ → At → Result (ℕ × At) ReadError
parent_at id frame here = do
  version ← placed (little w32 here)
  type_version ← placed (little w32 version.1)
  parent ← placed (little w32 type_version.1)
  if nat_le parent.0 id then Ok parent else Err (with_values id parent.0 (fault bad_field frame))

-- the name of a field and of its type; an alias and a description come behind them
unfoldable pub names_at : At → Result ((List ℕ × List ℕ) × At) ReadError
names_at here = do
  name ← placed (string_at here)
  type_name ← placed (string_at name.1)
  alias ← placed (string_at type_name.1)
  text ← placed (string_at alias.1)
  Ok ((name.0, type_name.0), text.1)

-- the field with this id, whose record frame begins here
unfoldable pub field_at : ℕ → At → Result (FieldRow × At) ReadError
field_at id here = do
  frame ← placed (record_at here)
  parent ← parent_at id here.place frame.0
  role ← placed (little w16 parent.1)
  flags ← placed (little w16 role.1)
  names ← names_at flags.1
  Ok (record { parent = parent.0; role = role.0; flags = flags.0; name = names.0.0; type_name = names.0.1 }, frame.1)

-- so many fields behind these
abbrev pub fields_on : ℕ → List FieldRow → At → Result (List FieldRow) ReadError
fields_on zero rows here = Ok rows
fields_on (suc n) rows here = field_at (length rows) here >>= λ row. fields_on n (rows ++ row.0 ∷ []) row.1

-- the list frame of fields behind these
unfoldable pub fields_at : List FieldRow → At → Result (List FieldRow × At) ReadError
fields_at rows here = do
  list ← placed (list_at here)
  fields ← fields_on list.0.0 rows list.0.1
  Ok (fields, list.1)

-- the field of the column whose record frame begins at that place, one of so many fields
unfoldable pub owner_at : ℕ → ℕ → At → Result (ℕ × At) ReadError
owner_at fields frame here = do
  field ← placed (little w32 here)
  if nat_lt field.0 fields then Ok field else Err (with_values fields field.0 (fault bad_column frame))

-- the index of the first element, which a deferred column has
unfoldable pub first_at : ℕ → At → Result (ℕ × At) ReadError
first_at flags here = if is_deferred flags then placed (little w64 here) else Ok (0, here)

-- the column of one of so many fields, whose record frame begins here
unfoldable pub column_at : ℕ → At → Result (ColumnRow × At) ReadError
column_at fields here = do
  frame ← placed (record_at here)
  code ← placed (little w16 frame.0)
  bits ← placed (little w16 code.1)
  field ← owner_at fields here.place bits.1
  flags ← placed (little w16 field.1)
  representation ← placed (little w16 flags.1)
  first ← first_at flags.0 representation.1
  Ok (
    record { code = code.0; bits = bits.0; field = field.0; flags = flags.0; representation = representation.0; first = first.0 },
    frame.1,
  )

-- so many columns behind these
abbrev pub columns_on : ℕ → ℕ → List ColumnRow → At → Result (List ColumnRow) ReadError
columns_on fields zero rows here = Ok rows
columns_on fields (suc n) rows here = column_at fields here >>= λ row. columns_on fields n (rows ++ row.0 ∷ []) row.1

-- the list frame of columns behind these
unfoldable pub columns_at : ℕ → List ColumnRow → At → Result (List ColumnRow × At) ReadError
columns_at fields rows here = do
  list ← placed (list_at here)
  columns ← columns_on fields list.0.0 rows list.0.1
  Ok (columns, list.1)

-- the rows of the description that begins here behind these; alias columns and extra type information are skipped
unfoldable pub rows_at : List FieldRow → List ColumnRow → At → Result ((List FieldRow × List ColumnRow) × At) ReadError
rows_at old_fields old_columns here = do
  fields ← fields_at old_fields here
  columns ← columns_at (length fields.0) old_columns fields.1
  aliases ← placed (list_at columns.1)
  types ← placed (list_at aliases.1)
  Ok ((fields.0, columns.0), types.1)

-- the table of all these rows, where those that it didn't have were read from this part
abbrev pub extended : Part → Table → List FieldRow → List ColumnRow → Table
extended Header t fields columns = in_header fields columns
extended Extension t fields columns = table_of fields columns t.header_fields t.header_columns

-- the table with the rows of the description that begins here behind its own
unfoldable pub description_at : Part → Table → At → Result (Table × At) ReadError
description_at part t here = do
  rows ← rows_at t.fields t.columns here
  Ok (extended part t rows.0.0 rows.0.1, rows.1)
