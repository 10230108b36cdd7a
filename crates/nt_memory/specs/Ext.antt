-- An extent in memory.
use Rattle.std.specs.Prelude.{◌≡◌, ℕ, Bool, true, false, List, length, Option, Some, None, IsSome, if◌then◌else◌, refl}
use Rattle.std.proofs.Common.{subst}
use Rattle.nt_outside.specs.declared.range.Range.{Range}
use Rattle.nt_outside.specs.Range.{ExtState, IsSized}
use Rattle.nt_memory.specs.declared.range.MemExt.{MemExt}

-- its bytes, which it tells once it is filled
abbrev pub content_of : Bool → List ℕ → Option (List ℕ)
content_of filled bytes = if filled then Some bytes else None

-- an extent of this range
abbrev pub extent : Range → Bool → List ℕ → ExtState
extent range filled bytes = record { range = range; filled = filled; content = content_of filled bytes; tells = true }

-- its range and its bytes
abbrev pub state_of : MemExt → ExtState
state_of e = extent e.range e.filled e.bytes.items

some_is : (x y : List ℕ) → Some x ≡ Some y → x ≡ y
some_is x y e = cc

sized_by : (range : Range) (filled : Bool) (items bytes : List ℕ) → (filled ≡ true → length items ≡ range.len)
    → content_of filled items ≡ Some bytes → IsSized (extent range filled items) bytes
sized_by range true items bytes whole is = record {
  filled = refl;
  whole = subst (λ (l : List ℕ). length l ≡ range.len) (some_is items bytes is) (whole refl);
}
sized_by range false items bytes whole is = absurd (cc)

-- only a filled extent has bytes, and they are as many as it is long
pub sized_of : (e : MemExt) (bytes : List ℕ) → (state_of e).content ≡ Some bytes → IsSized (state_of e) bytes
sized_of e bytes is = sized_by e.range e.filled e.bytes.items bytes e.whole is

shown_by : (range : Range) (filled : Bool) (items : List ℕ) → filled ≡ true → IsSome (extent range filled items).content
shown_by range true items is = refl
shown_by range false items is = absurd (cc)

-- a filled extent has its bytes
pub has_bytes_of : (e : MemExt) → (state_of e).filled ≡ true → (state_of e).tells ≡ true → IsSome (state_of e).content
has_bytes_of e filled tells = shown_by e.range e.filled e.bytes.items filled
