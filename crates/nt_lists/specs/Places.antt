-- Bytes, and other items, at a place of a list.
use Rattle.std.specs.Prelude.{ℕ, ◌+◌, List, ◌++◌, length, take, drop}
use Rattle.std.specs.Int.{w32, w64, from_le_bytes}

-- items in the place of as many others; a list that ends before they do gets longer
abbrev pub put_at : {A : Type 0} → List A → ℕ → List A → List A
put_at old at items = take at old ++ items ++ drop (at + length items) old

-- the 32-bit word at a place, the lowest byte first
abbrev pub half_word_at : List ℕ → ℕ → ℕ
half_word_at bytes at = from_le_bytes w32 (drop at bytes)

-- the 64-bit word at a place, the lowest byte first
abbrev pub word_at : List ℕ → ℕ → ℕ
word_at bytes at = from_le_bytes w64 (drop at bytes)
