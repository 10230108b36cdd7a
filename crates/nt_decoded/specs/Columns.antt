-- The columns of a cluster, decoded one after the other.
use Rattle.std.specs.Prelude.{ℕ, ◌≡◌, ◌+◌, ◌<◌, List, map, take, drop, length, slice_index_or, Option, Some, None, Result, OnOk}
use Rattle.nt_num.specs.declared.fault.ReadError.{ReadError}
use Rattle.nt_types.specs.declared.column_type.ColumnType.{ColumnType}
use Rattle.nt_types.specs.declared.column_type.ColumnType.TheVariants.{Bit}
use Rattle.nt_encode.specs.Elements.{Element}
use Rattle.nt_column.specs.Column.{Buffer, Column, empty, columns_of}
use Rattle.nt_grammar.specs.Table.{Table}
use Rattle.nt_grammar.specs.declared.rows.ColumnRow.{ColumnRow}
use Rattle.nt_plans.specs.Needs.{need_of}
use Rattle.nt_pagelists.specs.declared.cluster.ClusterList.{ClusterList}
use Rattle.nt_file_meaning.specs.Outlines.{known_column}
use Rattle.nt_file_meaning.specs.Clusters.{kind_of_code, column_elements}

-- the type by which a column is kept; one without a type, which stays empty, by any
abbrev pub kind_or_bit : Option ColumnType → ColumnType
kind_or_bit (Some kind) = kind
kind_or_bit None = Bit

-- a column without elements
abbrev pub kept_empty : ColumnRow → Column
kept_empty row = empty (kind_or_bit (kind_of_code row.code))

-- columns are of the types by which those of these rows are kept
abbrev pub AreOfTypes : List ColumnRow → List Column → Type 0
AreOfTypes rows cs = map (λ (c : Column). empty c.kind) cs ≡ map kept_empty rows

-- the column with this id
abbrev pub held_column : List Column → ℕ → Column
held_column cs id = slice_index_or cs id (empty Bit)

-- the elements of the column with this row and id in a cluster
abbrev pub elements_in : ℕ → ClusterList → Table → ℕ → ColumnRow → List ℕ → Result (List Element) ReadError
elements_in number k t id row file = column_elements file number k id (known_column (need_of t id) row) row.code

-- the elements that buffers hold, column by column
abbrev pub held_elements : List Buffer → List (List Element)
held_elements bs = map (λ (c : Column). c.elements) (columns_of bs)

-- so many columns were read, and the others are empty
pub record AreReadTo (rows : List ColumnRow) (n : ℕ) (cs : List Column) : Type 0 where
  pub all : length cs ≡ length rows
  pub others : drop n cs ≡ map kept_empty (drop n rows)

-- the column with this id is the first that wasn't read
pub record IsNextColumn (rows : List ColumnRow) (id : ℕ) (cs : List Column) : Type 0 where
  pub there : id < length rows
  pub before : AreReadTo rows id cs

-- the column with this id is there, and empty
pub record IsEmptyAt (cs : List Column) (id : ℕ) : Type 0 where
  pub there : id < length cs
  pub none : held_column cs id ≡ empty (held_column cs id).kind

-- nothing but this column may have changed
pub record ChangesOne (id : ℕ) (cs ds : List Column) : Type 0 where
  pub all : length ds ≡ length cs
  pub before : take id ds ≡ take id cs
  pub behind : drop (id + 1) ds ≡ drop (id + 1) cs

-- columns are of the types that others are of
abbrev pub KeepTypes : List Column → List Column → Type 0
KeepTypes cs ds = map (λ (c : Column). empty c.kind) ds ≡ map (λ (c : Column). empty c.kind) cs

-- this column alone may have changed, and where the answer isn't a failure none is of another type
pub record FillsOne {E : Type 0} (id : ℕ) (cs ds : List Column) (result : Result Unit E) : Type 0 where
  pub one : ChangesOne id cs ds
  pub types : OnOk result (KeepTypes cs ds)
