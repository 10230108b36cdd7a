-- What the numbers of a column came to so far.
use Rattle.std.specs.Prelude.{ℕ, ◌≡◌, ◌%◌, ◌^◌, List, ◌++◌, map, length}
use Rattle.nt_total.specs.Keys.{key, IsPieceOf}
use Rattle.nt_total.specs.declared.running.Running.{Running}

-- what is kept of numbers, of whose width so many elements stand for integers below zero: how many there were, in 64 bits, and what their
-- keys come to
pub record IsSoFar (ns : List ℕ) (bias : ℕ) (r : Running) : Type 0 where
  pub count : r.count ≡ length ns % 2 ^ 64
  pub piece : IsPieceOf (map (key bias) ns) r.piece

-- numbers were added to whatever there was
abbrev pub IsAdded : List ℕ → ℕ → Running → Running → Type 0
IsAdded more bias old new = (ns : List ℕ) → IsSoFar ns bias old → IsSoFar (ns ++ more) bias new
