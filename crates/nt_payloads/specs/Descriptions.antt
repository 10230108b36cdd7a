-- Schema descriptions, as a grammar (RNTuple Binary Format Specification 1.0.0.0, sections Schema Description, Field Description, Column
-- Description, and Header Envelope).
use Rattle.std.specs.Prelude.{ℕ, ◌≡◌, ◌+◌, ◌^◌, ◌<◌, List, ◌++◌, length}
use Rattle.std.specs.List.{AllByRecursion}
use Rattle.std.specs.Int.{w16, w32, w64, to_le_bytes}
use Rattle.nt_format.specs.Strings.{string}
use Rattle.nt_format.specs.Frames.{list_frame}
use Rattle.nt_grammar.specs.declared.rows.FieldRow.{FieldRow}
use Rattle.nt_grammar.specs.declared.rows.ColumnRow.{ColumnRow}
use Rattle.nt_grammar.specs.Writing.{column_numbers, first_element}
use Rattle.nt_grammar.specs.Table.{Table, no_rows}
use Rattle.nt_grammar.specs.Reading.{extended}
use Rattle.nt_grammar.specs.declared.part.Part.{Part}
use Rattle.nt_grammar.specs.declared.part.Part.TheVariants.{Header}
use Rattle.nt_grammar.specs.ReadingBack.{AreFieldRows, IsColumnRow}
use Rattle.nt_payloads.specs.Framed.{InRecord, InList, Items}

-- a field: the versions of the field and of its type, its parent, its role and its flags, and four strings: its name, its type's name, an
-- alias and what describes it; the ranges of what a row has are those of `IsFieldRow`
pub record FieldRowText (place : ℕ) (text : List ℕ) (r : FieldRow) : Type 0 where
  pub version : ℕ
  pub type_version : ℕ
  pub alias : List ℕ
  pub about : List ℕ
  pub parts : text ≡ to_le_bytes w32 version ++ (to_le_bytes w32 type_version ++ (to_le_bytes w32 r.parent ++ (to_le_bytes w16 r.role ++
      (to_le_bytes w16 r.flags ++ (string r.name ++ (string r.type_name ++ (string alias ++ string about)))))))
  pub version_fits : version < 2 ^ 32
  pub type_version_fits : type_version < 2 ^ 32
  pub alias_fits : length alias < 2 ^ 32
  pub about_fits : length about < 2 ^ 32

-- a column: its type, the bits of an element, its field, its flags and its representation, and the index of its first element where it is
-- deferred; the ranges of these are those of `IsColumnRow`
pub record ColumnRowText (place : ℕ) (text : List ℕ) (c : ColumnRow) : Type 0 where
  pub parts : text ≡ column_numbers c ++ first_element c

-- a list frame whose items aren't looked at
pub record IsSkipped (text : List ℕ) : Type 0 where
  pub count : ℕ
  pub inside : List ℕ
  pub frame : text ≡ list_frame count inside
  pub few : count < 2 ^ 32
  pub size : 12 + length inside < 2 ^ 63

-- a description: the list frames of fields and of columns, each a record frame, and those of alias columns and of extra type information
pub record DescriptionText (place : ℕ) (text : List ℕ) (rows : List FieldRow × List ColumnRow) : Type 0 where
  pub fields : List ℕ
  pub columns : List ℕ
  pub aliases : List ℕ
  pub types : List ℕ
  pub parts : text ≡ fields ++ (columns ++ (aliases ++ types))
  pub are_fields : InList (Items (InRecord FieldRowText)) place fields rows.0
  pub are_columns : InList (Items (InRecord ColumnRowText)) (place + length fields) columns rows.1
  pub are_aliases : IsSkipped aliases
  pub are_types : IsSkipped types

-- rows that can stand behind so many fields: no field has a parent behind it, and each column is one of a field that is there
pub record AreRowsBehind (fields : List FieldRow) (rows : List FieldRow × List ColumnRow) : Type 0 where
  pub ids : AreFieldRows (length fields) rows.0
  pub owners : AllByRecursion (IsColumnRow (length (fields ++ rows.0))) rows.1

-- a description of rows that stand behind those of a table, and the table with them
pub record AddsDescription (part : Part) (t : Table) (place : ℕ) (text : List ℕ) (read : Table) : Type 0 where
  pub rows : List FieldRow × List ColumnRow
  pub is : DescriptionText place text rows
  pub behind : AreRowsBehind t.fields rows
  pub table : read ≡ extended part t (t.fields ++ rows.0) (t.columns ++ rows.1)

-- the payload of a header: no feature flag, the names of the ntuple, of what describes it and of what wrote it, the description, and then
-- any bytes
pub record IsHeaderPayload (place : ℕ) (payload : List ℕ) (t : Table) : Type 0 where
  pub name : List ℕ
  pub about : List ℕ
  pub writer : List ℕ
  pub description : List ℕ
  pub more : List ℕ
  pub parts : payload ≡ to_le_bytes w64 0 ++ (string name ++ (string about ++ (string writer ++ (description ++ more))))
  pub name_fits : length name < 2 ^ 32
  pub about_fits : length about < 2 ^ 32
  pub writer_fits : length writer < 2 ^ 32
  pub describes : AddsDescription Header no_rows (place + 8 + length (string name) + length (string about) + length (string writer))
      description t
