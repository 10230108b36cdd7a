-- Numbers of a column that are lent as they lie.
use Rattle.std.specs.Prelude.{ℕ, Bool, List, map}
use Rattle.nt_column.specs.declared.words.WordSlice.{WordSlice}
use Rattle.nt_column.specs.declared.words.WordSlice.TheVariants.{Bits, Bytes, Words16, Words32, Words64}
use Rattle.nt_column.specs.Bits.{bit_of}
use Rattle.nt_column.specs.Elements.{Element, plain}

-- the elements
abbrev pub lent_elements : WordSlice → List Element
lent_elements (Bits s) = map (λ (b : Bool). plain (bit_of b)) s.now
lent_elements (Bytes s) = map plain s.now
lent_elements (Words16 s) = map plain s.now
lent_elements (Words32 s) = map plain s.now
lent_elements (Words64 s) = map plain s.now

-- the bits of an element
abbrev pub lent_width : WordSlice → ℕ
lent_width (Bits s) = 1
lent_width (Bytes s) = 8
lent_width (Words16 s) = 16
lent_width (Words32 s) = 32
lent_width (Words64 s) = 64
