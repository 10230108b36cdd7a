-- RNTuple Binary Format Specification 1.0.0.0, section Basic Types: strings.
use Rattle.std.specs.Prelude.{ℕ, List, ◌++◌, length, Result}
use Rattle.std.specs.Int.{w32, to_le_bytes}
use Rattle.nt_num.specs.Place.{At}
use Rattle.nt_num.specs.Cursor.{next, little}
use Rattle.nt_lists.specs.Chaining.{◌>>=◌, refused_as}

-- a string: four bytes of length, and that many bytes
abbrev pub string : List ℕ → List ℕ
string text = to_le_bytes w32 (length text) ++ text

-- the string that begins here, or this place where none lies in what is left
unfoldable pub string_at : At → Result (List ℕ × At) ℕ
string_at here = refused_as here.place (do
  size ← little w32 here
  next (λ text. text) size.0 size.1)
