-- What descriptions can hold, and the tables that written ones are read into.
use Rattle.std.specs.Prelude.{ℕ, suc, ◌≡◌, ◌<◌, ◌≤◌, ◌^◌, false, List, [], ◌∷◌, ◌++◌, length, take, drop}
use Rattle.std.specs.List.{AllByRecursion}
use Rattle.nt_grammar.specs.declared.rows.FieldRow.{FieldRow}
use Rattle.nt_grammar.specs.declared.rows.ColumnRow.{ColumnRow}
use Rattle.nt_grammar.specs.declared.part.Part.{Part}
use Rattle.nt_grammar.specs.declared.part.Part.TheVariants.{Header, Extension}
use Rattle.nt_grammar.specs.Table.{Table, table_of, no_rows}
use Rattle.nt_grammar.specs.Writing.{is_deferred}
use Rattle.nt_grammar.specs.Reading.{extended}

-- what the field with this id can be: its parent has no larger id
pub record IsFieldRow (id : ℕ) (r : FieldRow) : Type 0 where
  pub parent : r.parent ≤ id
  pub word : r.parent < 2 ^ 32
  pub role : r.role < 2 ^ 16
  pub flags : r.flags < 2 ^ 16
  pub name : length r.name < 2 ^ 32
  pub type_name : length r.type_name < 2 ^ 32

-- fields whose ids go on from this one
abbrev pub AreFieldRows : ℕ → List FieldRow → Type 0
AreFieldRows id [] = Unit {0}
AreFieldRows id (r ∷ rs) = IsFieldRow id r × AreFieldRows (suc id) rs

-- what a column of one of so many fields can be: where it isn't deferred, its first element is that of entry 0
pub record IsColumnRow (fields : ℕ) (c : ColumnRow) : Type 0 where
  pub code : c.code < 2 ^ 16
  pub bits : c.bits < 2 ^ 16
  pub field : c.field < fields
  pub word : c.field < 2 ^ 32
  pub flags : c.flags < 2 ^ 16
  pub representation : c.representation < 2 ^ 16
  pub first : c.first < 2 ^ 64
  pub none : is_deferred c.flags ≡ false → c.first ≡ 0

-- rows that descriptions can hold: the columns of the header are of its own fields
pub record IsDescribed (t : Table) : Type 0 where
  pub fields : AreFieldRows 0 t.fields
  pub header : AllByRecursion (IsColumnRow t.header_fields) (take t.header_columns t.columns)
  pub extension : AllByRecursion (IsColumnRow (length t.fields)) (drop t.header_columns t.columns)
  pub header_fields : t.header_fields ≤ length t.fields
  pub header_columns : t.header_columns ≤ length t.columns

-- rows that a description can add behind those of this table
pub record AddsRows (part : Part) (t read : Table) : Type 0 where
  pub fields : List FieldRow
  pub columns : List ColumnRow
  pub ids : AreFieldRows (length t.fields) fields
  pub owners : AllByRecursion (IsColumnRow (length (t.fields ++ fields))) columns
  pub rows : read ≡ extended part t (t.fields ++ fields) (t.columns ++ columns)

-- what stands in the header
abbrev pub header_of : Table → Table
header_of t = table_of (take t.header_fields t.fields) (take t.header_columns t.columns) t.header_fields t.header_columns

-- the rows before those of this part
abbrev pub before : Part → Table → Table
before Header t = no_rows
before Extension t = header_of t

-- the rows up to those of this part, and these too
abbrev pub up_to : Part → Table → Table
up_to Header t = header_of t
up_to Extension t = t
