-- The rows of a schema description (RNTuple Binary Format Specification 1.0.0.0, section Schema Description).
use Rattle.std.specs.Prelude.{ℕ, ◌≤◌, ◌*◌, ◌^◌, Bool, List, [], length, nat_lt, ◌&&◌}
use Rattle.nt_types.specs.Limits.{max_fields}
use Rattle.nt_grammar.specs.declared.rows.FieldRow.{FieldRow}
use Rattle.nt_grammar.specs.declared.rows.ColumnRow.{ColumnRow}

-- the rows of fields and of columns, by id, and how many of each stand in the header; the others stand in the extension
pub record Table : Type 0 where
  pub fields : List FieldRow
  pub columns : List ColumnRow
  pub header_fields : ℕ
  pub header_columns : ℕ

-- these rows, with so many in the header
abbrev pub table_of : List FieldRow → List ColumnRow → ℕ → ℕ → Table
table_of fields columns header_fields header_columns =
    record { fields = fields; columns = columns; header_fields = header_fields; header_columns = header_columns }

-- these rows, all in the header
abbrev pub in_header : List FieldRow → List ColumnRow → Table
in_header fields columns = table_of fields columns (length fields) (length columns)

-- no rows
abbrev pub no_rows : Table
no_rows = in_header [] []

-- names that a description can hold
abbrev pub is_short : FieldRow → Bool
is_short r = nat_lt (length r.name) (2 ^ 32) && nat_lt (length r.type_name) (2 ^ 32)

-- no more fields than schema texts can have, with two columns each at most
pub record IsFew (t : Table) : Type 0 where
  pub fields : length t.fields ≤ max_fields
  pub columns : length t.columns ≤ 2 * length t.fields
