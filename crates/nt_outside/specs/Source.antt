-- A text that is read once, from its beginning to its end.
use Rattle.std.specs.Prelude.{◌≡◌, ℕ, ◌+◌, ◌≤◌, List, [], ◌++◌, length, Option, Some, Result, OnOk}
use Rattle.std.specs.Io.{ReadsAtMost}
use Rattle.std.specs.Io.KnownBytes.{Consumes, ReadConsumes}
use Rattle.nt_outside.specs.declared.fault.Failed.{Failed}
use Rattle.nt_outside.specs.Faults.{HasCause}

pub record SourceState : Type 0 where
  -- the bytes that reads will give, where the source tells them
  pub left : Option (List ℕ)
  -- how often a read has failed
  pub faults : ℕ

-- a read gives the next bytes, none only at the end; one that failed takes nothing and is counted, and no other
pub record TakesNext (old new : SourceState) (buf : List ℕ) (result : Result ℕ Failed) : Type 0 where
  pub bound : ReadsAtMost result buf
  pub bytes : ReadConsumes old.left new.left result buf
  pub served : OnOk result (new.faults ≡ old.faults)
  pub cause : HasCause old.faults new.faults result

-- these bytes are all that is left, or, where they are more than `most`, the front of it
pub record IsFrontOf (most : ℕ) (bytes left : List ℕ) : Type 0 where
  pub rest : List ℕ
  pub joined : left ≡ bytes ++ rest
  pub whole : length bytes ≤ most → rest ≡ []

-- at most one byte more than `most`; and where the source tells what is left, these bytes are the front of it
pub record TakesFront (left : Option (List ℕ)) (most : ℕ) (bytes : List ℕ) : Type 0 where
  pub few : length bytes ≤ most + 1
  pub front : (told : List ℕ) → left ≡ Some told → IsFrontOf most bytes told

-- at most so many bytes were taken
pub record TakesAtMost (most : ℕ) (old new : Option (List ℕ)) : Type 0 where
  pub bytes : List ℕ
  pub few : length bytes ≤ most
  pub taken : Consumes old new bytes
