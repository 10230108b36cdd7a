-- Pieces of a file, and a file as parts that stand one behind the other.
use Rattle.std.specs.Prelude.{◌≡◌, ℕ, ◌+◌, ◌<◌, List, [], ◌++◌, length, take, drop, map, sum, slice_index_or, nat_le, if◌then◌else◌, Option}
use Rattle.std.specs.Prelude.{Some, None, Result, Ok, Err}
use Rattle.std.specs.List.{concat}
use Rattle.nt_num.specs.Place.{At}
use Rattle.nt_format.specs.Reading.{standing}

-- so many bytes of a file from a place on; there are none where they don't all lie in it
unfoldable pub piece : List ℕ → ℕ → ℕ → Option (List ℕ)
piece file at size = if nat_le (at + size) (length file) then Some (take size (drop at file)) else None

-- the bytes of a file from a place on, at most so many
abbrev pub window : ℕ → List ℕ → ℕ → List ℕ
window most file at = take most (drop at file)

-- the beginning of a piece, whose places count from there; where there is none, this fault
abbrev pub standing_or : {E : Type 0} → E → Option (List ℕ) → Result At E
standing_or fault (Some bytes) = Ok (standing 0 bytes)
standing_or fault None = Err fault

-- so many bytes of the file have to stand at that place, else there is this fault
abbrev pub piece_or : {E : Type 0} → E → List ℕ → ℕ → ℕ → Result At E
piece_or fault file at size = standing_or fault (piece file at size)

-- a part stands where the lengths of those before it say
abbrev pub PartsAreFound : Type 0
PartsAreFound =
    (parts : List (List ℕ)) (k : ℕ) → k < length parts
    → piece (concat parts) (sum (map length (take k parts))) (length (slice_index_or parts k [])) ≡ Some (slice_index_or parts k [])

-- what stands inside of a piece is a piece of the file
abbrev pub InsidesAreFound : Type 0
InsidesAreFound =
    (file part before middle rest : List ℕ) (at : ℕ) → before ++ (middle ++ rest) ≡ part
    → piece file at (length part) ≡ Some part → piece file (at + length before) (length middle) ≡ Some middle
