-- How the calls of the reader answer.
use Rattle.std.specs.Prelude.{ℕ, ◌≡◌, ◌≤◌, ◌^◌, List, length, Some, Result, Ok, Err, IsErrOf}
use Rattle.nt_num.specs.Place.{At}
use Rattle.nt_num.specs.declared.cursor.Short.{Short}
use Rattle.nt_num.specs.declared.fault.ReadError.{ReadError}
use Rattle.nt_lists.specs.Chaining.{◌>>=◌}
use Rattle.nt_container.specs.declared.anchor.Anchor.{Anchor}
use Rattle.nt_container.specs.declared.parts.Key.{Key}
use Rattle.nt_container.specs.Anchors.{object_of, anchor_from}
use Rattle.nt_outside.specs.File.{FileState}
use Rattle.nt_outside.specs.Faults.{Rose}
use Rattle.nt_tfile.specs.declared.failure.ReadFailure.{ReadFailure}
use Rattle.nt_tfile.specs.declared.failure.ReadFailure.TheVariants.{Defect, Fault, Memory}

-- how many bytes of a file are read at once, at most
abbrev pub most_at_once : ℕ
most_at_once = 2 ^ 20

-- a call that ended at this place answers what a reading gives; where it is short, that is the place
abbrev pub ReadsOn : {V W : Type 0} → (V → W) → Result V Short → At → Result (W × At) ℕ → Type 0
ReadsOn view (Ok value) new reading = reading ≡ Ok (view value, new)
ReadsOn view (Err e) new reading = reading ≡ Err new.place

-- a call answers what a reading gives
abbrev pub IsReadAs : {V W E : Type 0} → (V → W) → Result V E → Result W E → Type 0
IsReadAs view (Ok value) reading = reading ≡ Ok (view value)
IsReadAs view (Err e) reading = reading ≡ Err e

-- a call answers what a reading gives, but for a fault of the outside and want of memory
abbrev pub IsReadOrFails : {V W : Type 0} → (V → W) → Result V ReadFailure → Result W ReadError → Type 0
IsReadOrFails view (Ok value) reading = reading ≡ Ok (view value)
IsReadOrFails view (Err (Defect e)) reading = reading ≡ Err e
IsReadOrFails view (Err Fault) reading = Unit {0}
IsReadOrFails view (Err Memory) reading = Unit {0}

-- the same of the bytes of a file that tells them
abbrev pub ReadsFile : {V W : Type 0} → (V → W) → (List ℕ → Result W ReadError) → FileState → Result V ReadFailure → Type 0
ReadsFile view reading file result = (told : List ℕ) → file.bytes ≡ Some told → IsReadOrFails view result (reading told)

-- the file keeps its bytes, and an answer of a fault comes only where its count rose
pub record Serves {V : Type 0} (old new : FileState) (result : Result V ReadFailure) : Type 0 where
  pub same : new.bytes ≡ old.bytes
  pub later : old.faults ≤ new.faults
  pub fault : IsErrOf result Fault → Rose old.faults new.faults

-- a file that tells its bytes has so many
abbrev pub HasSize : FileState → ℕ → Type 0
HasSize file size = (told : List ℕ) → file.bytes ≡ Some told → size ≡ length told

-- the anchor of a key in a file
abbrev pub anchor_at : Key → List ℕ → Result Anchor ReadError
anchor_at key file = object_of file key >>= λ object. anchor_from key.place object
