-- A file that is read at any place, and that no read changes.
use Rattle.std.specs.Prelude.{◌≡◌, ℕ, ◌-◌, ◌≤◌, min, List, length, take, drop, Option, Some, Result, IfOk}
use Rattle.nt_outside.specs.declared.fault.Failed.{Failed}
use Rattle.nt_outside.specs.Faults.{HasCause}

pub record FileState : Type 0 where
  -- the file's bytes, where it tells them
  pub bytes : Option (List ℕ)
  -- how often a call has failed
  pub faults : ℕ

-- the size is the number of the bytes
pub record TellsSize (old new : FileState) (result : Result ℕ Failed) : Type 0 where
  pub same : new.bytes ≡ old.bytes
  pub size : IfOk result (λ n. (told : List ℕ) → old.bytes ≡ Some told → n ≡ length told)
  pub cause : HasCause old.faults new.faults result

-- the bytes from a place fill the buffer, or its front where the file ends sooner
pub record ReadsAt (at : ℕ) (old new : FileState) (buf : List ℕ) (result : Result ℕ Failed) : Type 0 where
  pub same : new.bytes ≡ old.bytes
  pub bound : IfOk result (λ n. n ≤ length buf)
  pub bytes : IfOk result (λ n. (told : List ℕ) → old.bytes ≡ Some told → (n ≡ min (length buf) (length told - at))
      × (take n buf ≡ take n (drop at told)))
  pub cause : HasCause old.faults new.faults result
