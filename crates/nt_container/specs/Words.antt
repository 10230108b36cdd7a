-- Words of ROOT's container: numbers with the highest byte first, places of 4 or 8 bytes, and strings.
use Rattle.std.specs.Prelude.{ℕ, Bool, List, ◌∷◌, ◌++◌, length, nat_eq, if◌then◌else◌, Result, Ok}
use Rattle.std.specs.Int.{w8, w32, w64, to_be_bytes}
use Rattle.nt_num.specs.Place.{At}
use Rattle.nt_num.specs.Cursor.{little, big}
use Rattle.nt_lists.specs.Chaining.{◌>>=◌}
use Rattle.nt_format.specs.Demands.{bytes_at}

-- a place in the file, of 8 or 4 bytes
unfoldable pub place_at : Bool → At → Result (ℕ × At) ℕ
place_at wide here = if wide then big w64 here else big w32 here

-- a TString: its length in one byte, or 255 and its length in four; and its bytes
unfoldable pub tstring_at : At → Result (List ℕ × At) ℕ
tstring_at here = do
  byte ← little w8 here
  size ← (if nat_eq byte.0 255 then big w32 byte.1 else Ok byte)
  bytes_at size.0 size.1

-- a TString of fewer than 255 bytes
unfoldable pub short_tstring : List ℕ → List ℕ
short_tstring text = length text ∷ text

-- a TString of any length
unfoldable pub long_tstring : List ℕ → List ℕ
long_tstring text = 255 ∷ (to_be_bytes w32 (length text) ++ text)
