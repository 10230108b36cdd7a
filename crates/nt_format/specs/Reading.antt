-- Readings: functions of a place in a list of bytes that answer a value and the place behind it, or the first fault.
use Rattle.std.specs.Prelude.{ℕ, ◌≡◌, ◌+◌, ◌<◌, List, ◌++◌, length, slice_index, Result, Ok, Err}
use Rattle.nt_num.specs.Place.{At}
use Rattle.nt_num.specs.Codes.{bad_frame}
use Rattle.nt_num.specs.Faults.{fault}
use Rattle.nt_num.specs.declared.fault.ReadError.{ReadError}

-- what can't be read is misplaced where it begins
abbrev pub placed : {A : Type 0} → Result A ℕ → Result A ReadError
placed (Ok x) = Ok x
placed (Err at) = Err (fault bad_frame at)

-- a place, and the bytes that are left from it on
abbrev pub standing : ℕ → List ℕ → At
standing place left = record { place = place; left = left }

-- each number is a byte
abbrev pub IsBytes : List ℕ → Type 0
IsBytes bytes = (i : ℕ) → slice_index bytes i < 256

-- this text stands in front of what is left behind it
pub record Takes (here : At) (text : List ℕ) (after : At) : Type 0 where
  pub parts : here.left ≡ text ++ after.left
  pub place : after.place ≡ here.place + length text
  pub bytes : IsBytes after.left

-- a reading and a spelling of the values that have one: what is spelled is read, whatever follows it, and what is read is spelled so
pub record Spells {V E : Type 0} (reading : At → Result (V × At) E) (spelling : V → List ℕ) (Fits : V → Type 0) : Type 0 where
  pub reads : (value : V) (place : ℕ) (rest : List ℕ) → Fits value
      → reading (standing place (spelling value ++ rest)) ≡ Ok (value, standing (place + length (spelling value)) rest)
  pub finds : (here after : At) (value : V) → IsBytes here.left → reading here ≡ Ok (value, after)
      → Takes here (spelling value) after × Fits value

-- no bytes begin with the spellings of two values
abbrev pub HasOneReading : {V : Type 0} → (V → List ℕ) → (V → Type 0) → Type 0
HasOneReading {V = V} spelling Fits =
    (one other : V) (rest others : List ℕ) → Fits one → Fits other → spelling one ++ rest ≡ spelling other ++ others
    → (one ≡ other) × (rest ≡ others)

-- this text is read as this value, whatever follows
abbrev pub ReadsAs : {V E : Type 0} → (At → Result (V × At) E) → List ℕ → V → Type 0
ReadsAs reading text value = (place : ℕ) (rest : List ℕ)
    → reading (standing place (text ++ rest)) ≡ Ok (value, standing (place + length text) rest)

-- whatever this reading gives of bytes is such
abbrev pub Yields : {W E : Type 0} → (At → Result W E) → (W → Type 0) → Type 0
Yields {W = W} reading Such = (here : At) (w : W) → IsBytes here.left → reading here ≡ Ok w → Such w

-- the value is such, and bytes follow
abbrev pub AndBytes : {V : Type 0} → (V → Type 0) → V × At → Type 0
AndBytes Such w = Such w.0 × IsBytes w.1.left
