-- Columns, as their buffers hold them.
use Rattle.std.specs.Prelude.{◌≡◌, ◌≢◌, ◌<◌, ◌^◌, ℕ, zero, suc, List, [], ◌∷◌, ◌++◌, map, take, min, slice_index_or, slice_get}
use Rattle.std.specs.Prelude.{replicate, Option}
use Rattle.std.specs.Option.{option_map}
use Rattle.nt_types.specs.declared.column_type.ColumnType.{ColumnType}
use Rattle.nt_types.specs.declared.column_type.ColumnType.TheVariants.{Switch}
use Rattle.nt_types.specs.ColumnTable.{bits_of}
use Rattle.nt_column.specs.Elements.{Element, plain, AreElementsOf}

-- a column: its type, its elements, and how many of them are kept as a count of zeros, which is none or all
pub record Column : Type 0 where
  pub kind : ColumnType
  pub elements : List Element
  pub zeros : ℕ

-- a buffer: what it holds, and how many elements it has room for
pub record Buffer : Type 0 where
  pub column : Column
  pub spare : ℕ

-- a column without elements
abbrev pub empty : ColumnType → Column
empty kind = record { kind = kind; elements = []; zeros = 0 }

-- a column of so many zeros, kept as their count
abbrev pub zeroed : ColumnType → ℕ → Column
zeroed kind n = record { kind = kind; elements = replicate n (plain 0); zeros = n }

-- the column with these elements at its end
abbrev pub with_more : Column → List Element → Column
with_more c es = record { kind = c.kind; elements = c.elements ++ es; zeros = c.zeros }

-- the first elements of a column
abbrev pub cut_to : ℕ → Column → Column
cut_to len c = record { kind = c.kind; elements = take len c.elements; zeros = min len c.zeros }

-- what the buffers hold, by column
abbrev pub columns_of : List Buffer → List Column
columns_of bs = map (λ (b : Buffer). b.column) bs

-- the elements of a column; none of a column that isn't there
abbrev pub elements_at : List Column → ℕ → List Element
elements_at cs k = slice_index_or (map (λ (c : Column). c.elements) cs) k []

-- the columns, of which the k-th is changed
abbrev pub changed : (Column → Column) → ℕ → List Column → List Column
changed f k [] = []
changed f zero (c ∷ cs) = f c ∷ cs
changed f (suc k) (c ∷ cs) = c ∷ changed f k cs

-- the type of a column; none of a column that isn't there
abbrev pub kind_at : List Column → ℕ → Option ColumnType
kind_at cs k = option_map (λ (c : Column). c.kind) (slice_get cs k)

-- each element of a column is one of its type
abbrev pub IsInRange : Column → Type 0
IsInRange c = AreElementsOf c.kind c.elements

-- a value of the column's type, which keeps its elements as single numbers
pub record TakesNumber (c : Column) (value : ℕ) : Type 0 where
  pub other : c.kind ≢ Switch
  pub stored : c.zeros ≡ 0
  pub fits : value < 2 ^ bits_of c.kind
