-- What a sum of bytes that come in pieces keeps of them.
use Rattle.std.specs.Prelude.{◌≡◌, ℕ, ◌+◌, ◌-◌, ◌*◌, ◌^◌, ◌<◌, List, ◌++◌, length, drop}
use Rattle.nt_xxh3.specs.Long.{stripes}
use Rattle.nt_xxh3.specs.Window.{zero_stripe}
use Rattle.nt_xxh3.specs.declared.pieces.Sum.{Sum}

-- the accumulators took the first stripes of the bytes, and the window has the rest and the 64 bytes before it
pub record IsSplit (words : List ℕ) (taken : ℕ) (window m : List ℕ) : Type 0 where
  pub by_words : words ≡ stripes m taken
  pub by_window : window ≡ drop (64 * taken) (zero_stripe ++ m)
  pub count : 64 * taken + length window ≡ 64 + length m

-- the same of a sum
abbrev pub Splits : Sum → List ℕ → Type 0
Splits s m = IsSplit s.lanes.words s.lanes.taken s.window m

-- the sum was given these bytes; once it took stripes there are more than 240, and one at least was not taken
unfoldable pub WasGiven : Sum → List ℕ → Type 0
WasGiven s m = Splits s m × (0 < s.lanes.taken → 240 < length m) × (0 < s.lanes.taken → 64 < length s.window)

-- how many bytes the sum was given
unfoldable pub total_of : Sum → ℕ
total_of s = 64 * s.lanes.taken + length s.window - 64

-- bytes that may follow, at least one
pub record IsMore (s : Sum) (bytes : List ℕ) : Type 0 where
  pub some : 0 < length bytes
  pub fits : total_of s + length bytes < 2 ^ 63
