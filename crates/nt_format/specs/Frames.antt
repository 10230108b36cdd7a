-- RNTuple Binary Format Specification 1.0.0.0, section Frames. A frame begins with its size in bytes, an i64 in two's complement:
-- above zero in a record frame, below zero in a list frame. The size counts all of the frame. What a frame contains behind the
-- contents that a reader knows is skipped, so a frame's reading gives all that is inside it.
use Rattle.std.specs.Prelude.{ℕ, ◌≡◌, ◌<◌, ◌+◌, ◌-◌, ◌^◌, List, ◌++◌, length, nat_lt, nat_le, if◌then◌else◌, Result, Ok, Err}
use Rattle.std.specs.Int.{w32, w64, to_le_bytes}
use Rattle.nt_num.specs.Place.{At}
use Rattle.nt_num.specs.Cursor.{little, part_of}
use Rattle.nt_lists.specs.Chaining.{◌>>=◌, refused_as}
use Rattle.nt_format.specs.Reading.{IsBytes, Takes}

-- a record frame: the size, and what is inside
abbrev pub record_frame : List ℕ → List ℕ
record_frame inside = to_le_bytes w64 (8 + length inside) ++ inside

-- a list frame: the size below zero, the number of items, and the items
abbrev pub list_frame : ℕ → List ℕ → List ℕ
list_frame count inside = to_le_bytes w64 (2 ^ 64 - (12 + length inside)) ++ (to_le_bytes w32 count ++ inside)

-- the inside of the record frame that begins here, and the place behind the frame; or this place where no record frame lies in what is left
unfoldable pub record_at : At → Result (At × At) ℕ
record_at here = refused_as here.place (do
  size ← little w64 here
  if nat_lt size.0 8 then Err here.place else (if nat_le (2 ^ 63) size.0 then Err here.place else part_of (size.0 - 8) size.1))

-- the number of items of the list frame that begins here, its inside behind that number, and the place behind the frame; or this place
-- where no list frame lies in what is left
unfoldable pub list_at : At → Result ((ℕ × At) × At) ℕ
list_at here = refused_as here.place (do
  size ← little w64 here
  count ← little w32 size.1
  inside ← (if nat_le size.0 (2 ^ 63) then Err here.place
      else (if nat_lt (2 ^ 64 - size.0) 12 then Err here.place else part_of (2 ^ 64 - size.0 - 12) count.1))
  Ok ((count.0, inside.0), inside.1))

-- a record frame begins here, with this inside, and ends there
pub record IsRecord (here inside after : At) : Type 0 where
  pub frame : Takes here (record_frame inside.left) after
  pub size : 8 + length inside.left < 2 ^ 63
  pub place : inside.place ≡ here.place + 8
  pub bytes : IsBytes inside.left

-- a list frame of so many items begins here, with this inside behind the number of items, and ends there
pub record IsList (here : At) (count : ℕ) (inside after : At) : Type 0 where
  pub frame : Takes here (list_frame count inside.left) after
  pub size : 12 + length inside.left < 2 ^ 63
  pub items : count < 2 ^ 32
  pub place : inside.place ≡ here.place + 12
  pub bytes : IsBytes inside.left
