-- The elements of a buffer, each kept at the width of its type.
use Rattle.std.specs.Prelude.{ℕ, ◌≡◌, ◌≢◌, ◌-◌, ◌<◌, ◌^◌, Bool, List, length, map}
use Rattle.std.specs.Vec.{vec_len, vec_capacity}
use Rattle.nt_column.specs.declared.store.Store.{Store}
use Rattle.nt_column.specs.declared.store.Store.TheVariants.{Bits, Bytes, Words16, Words32, Words64, Pairs}
use Rattle.nt_types.specs.declared.column_type.ColumnType.{ColumnType}
use Rattle.nt_types.specs.ColumnTable.{bits_of}
use Rattle.nt_encode.specs.Pages.{page_size}
use Rattle.nt_column.specs.Bits.{bit_of}
use Rattle.nt_column.specs.Elements.{Element, plain}
use Rattle.nt_column.specs.Widths.{pair_width}

-- the elements
abbrev pub elements_of : Store → List Element
elements_of (Bits v) = map (λ (b : Bool). plain (bit_of b)) v.items
elements_of (Bytes v) = map plain v.items
elements_of (Words16 v) = map plain v.items
elements_of (Words32 v) = map plain v.items
elements_of (Words64 v) = map plain v.items
elements_of (Pairs p) = p.elements

-- the bits of an element
abbrev pub width_of : Store → ℕ
width_of (Bits v) = 1
width_of (Bytes v) = 8
width_of (Words16 v) = 16
width_of (Words32 v) = 32
width_of (Words64 v) = 64
width_of (Pairs p) = pair_width

-- how many elements there is room for
abbrev pub spare_of : Store → ℕ
spare_of (Bits v) = vec_capacity v - vec_len v
spare_of (Bytes v) = vec_capacity v - vec_len v
spare_of (Words16 v) = vec_capacity v - vec_len v
spare_of (Words32 v) = vec_capacity v - vec_len v
spare_of (Words64 v) = vec_capacity v - vec_len v
spare_of (Pairs p) = p.spare

-- a value of the store's width, where it keeps single numbers
pub record TakesValue (s : Store) (value : ℕ) : Type 0 where
  pub single : width_of s ≢ pair_width
  pub fits : value < 2 ^ width_of s

-- a page of a type of the store's width
pub record TakesPage (s : Store) (kind : ColumnType) (count : ℕ) (bytes : List ℕ) : Type 0 where
  pub width : width_of s ≡ bits_of kind
  pub size : length bytes ≡ page_size kind count
