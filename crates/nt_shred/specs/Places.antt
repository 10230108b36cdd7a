-- Columns that grow while a text is read.
use Rattle.std.specs.Prelude.{ℕ, ◌≡◌, ◌≢◌, ◌+◌, ◌≤◌, ◌++◌, true, List, length, map}
use Rattle.nt_types.specs.declared.column_type.ColumnType.TheVariants.{Switch}
use Rattle.nt_types.specs.ColumnTable.{bits_of}
use Rattle.nt_types.specs.Spelling.{is_width}
use Rattle.nt_column.specs.Column.{Buffer}
use Rattle.nt_column.specs.Elements.{Element}
use Rattle.nt_trees.specs.Views.{cols_of}
use Rattle.nt_shred.specs.Frame.{set_frame}

-- no column has more than so many elements more
abbrev pub AddsUpTo : ℕ → List Buffer → List Buffer → Type 0
AddsUpTo n old new = (k : ℕ) → length (cols_of new k) ≤ length (cols_of old k) + n

-- elements may stand behind those that were there
pub record Grew (old new : List Buffer) : Type 0 where
  pub columns : (k : ℕ) → (more : List Element) × (cols_of new k ≡ cols_of old k ++ more)
  pub frame : set_frame new ≡ set_frame old

-- how many elements each column has
abbrev pub lengths_of : List Buffer → List ℕ
lengths_of bs = map (λ (b : Buffer). length b.column.elements) bs

-- a column of integers of a width, with room for so many
pub record TakesIntegers (bits left : ℕ) (b : Buffer) : Type 0 where
  pub other : b.column.kind ≢ Switch
  pub stored : b.column.zeros ≡ 0
  pub width : bits_of b.column.kind ≡ bits
  pub known : is_width bits ≡ true
  pub room : left ≤ b.spare
