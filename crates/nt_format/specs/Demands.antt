-- Demands of a reading: what has to hold or to be there, else there is a fault.
use Rattle.std.specs.Prelude.{ℕ, Bool, List, if◌then◌else◌, Option, Some, None, Result, Ok, Err}
use Rattle.nt_num.specs.Place.{At}
use Rattle.nt_num.specs.Cursor.{next}
use Rattle.nt_format.specs.Reading.{standing}
use Rattle.nt_lists.specs.Chaining.{refused_as}

-- the next n bytes as they are
abbrev pub bytes_at : ℕ → At → Result (List ℕ × At) ℕ
bytes_at = next (λ bytes. bytes)

-- this has to hold
abbrev pub demand : {E : Type 0} → Bool → E → Result (Unit {0}) E
demand test fault = if test then Ok tt else Err fault

-- this has to be there
abbrev pub found_or : {A E : Type 0} → E → Option A → Result A E
found_or fault (Some x) = Ok x
found_or fault None = Err fault

-- what was read, without the place behind it
abbrev pub alone_of : {V E : Type 0} → Result (V × At) E → Result V E
alone_of (Ok read) = Ok read.0
alone_of (Err fault) = Err fault

-- the value that stands in front of these bytes
abbrev pub first_in : {V F E : Type 0} → E → (At → Result (V × At) F) → List ℕ → Result V E
first_in fault reading bytes = alone_of (refused_as fault (reading (standing 0 bytes)))
