-- A file that is written: what each call does to it.
use Rattle.std.specs.Prelude.{◌≡◌, ℕ, ◌+◌, ◌≤◌, false, true, List, [], ◌∷◌, ◌++◌, length, Option, None, Result, OnOk, OnErr}
use Rattle.std.specs.declared.alloc.AllocError.{AllocError}
use Rattle.nt_outside.specs.declared.fault.Failed.{Failed}
use Rattle.nt_outside.specs.declared.fault.Refused.{Refused}
use Rattle.nt_outside.specs.Faults.{HasCause, RoseOnFailed, TakesIn}
use Rattle.nt_outside.specs.Range.{Range, ExtState, without}
use Rattle.nt_outside.specs.Held.{Held, IsTornAppend, IsTornWrite, IsReserved, IsRangeSettled, appended, written, synced, Becomes}
use Rattle.nt_outside.specs.Held.{BecomesSome, WhereHeld}

pub record DiskState : Type 0 where
  -- what the disk holds, where it tells it
  pub held : Option Held
  -- its length
  pub end : ℕ
  -- the ranges that are reserved and not settled
  pub out : List Range
  -- how often a call has failed, its own or one of a pen that came back
  pub faults : ℕ
  -- for how many calls, and for how many bytes in them, there is memory
  pub spare_steps : ℕ
  pub spare_bytes : ℕ

-- there is memory for one more step with so many bytes
pub record HasSpare (disk : DiskState) (more : ℕ) : Type 0 where
  pub step : 1 ≤ disk.spare_steps
  pub bytes : more ≤ disk.spare_bytes

-- a call uses at most one step and so many bytes of the memory taken before
pub record Spends (old new : DiskState) (more : ℕ) : Type 0 where
  pub steps : old.spare_steps ≤ new.spare_steps + 1
  pub bytes : old.spare_bytes ≤ new.spare_bytes + more

-- a call uses none of the memory taken before
pub record KeepsSpare (old new : DiskState) : Type 0 where
  pub steps : old.spare_steps ≤ new.spare_steps
  pub bytes : old.spare_bytes ≤ new.spare_bytes

-- what the disk holds, its length and its ranges stay
pub record KeepsPlace (old new : DiskState) : Type 0 where
  pub held : new.held ≡ old.held
  pub end : new.end ≡ old.end
  pub out : new.out ≡ old.out

-- memory was taken for so many steps and bytes, and nothing else changes
pub record TakesRoom (more_steps more_bytes : ℕ) (old new : DiskState) (result : Result Unit AllocError) : Type 0 where
  pub steps : OnOk result (more_steps ≤ new.spare_steps)
  pub bytes : OnOk result (more_bytes ≤ new.spare_bytes)
  pub kept : KeepsSpare old new
  pub held : new.held ≡ old.held
  pub end : new.end ≡ old.end
  pub out : new.out ≡ old.out
  pub faults : new.faults ≡ old.faults

-- these bytes stand behind all others, or, after a failure, some unknown ones, at most as many
pub record Appends (bytes : List ℕ) (old new : DiskState) (result : Result Unit Failed) : Type 0 where
  pub ok : OnOk result (Becomes old.held new.held (appended bytes))
  pub err : OnErr result (BecomesSome old.held new.held (IsTornAppend (length bytes)))
  pub end_ok : OnOk result (new.end ≡ old.end + length bytes)
  pub end_least : old.end ≤ new.end
  pub end_most : new.end ≤ old.end + length bytes
  pub out : new.out ≡ old.out
  pub spare : Spends old new (length bytes)
  pub cause : HasCause old.faults new.faults result

-- these bytes stand over those at a place, or, after a failure, some unknown ones
pub record Writes (at : ℕ) (bytes : List ℕ) (old new : DiskState) (result : Result Unit Failed) : Type 0 where
  pub ok : OnOk result (Becomes old.held new.held (written at bytes))
  pub err : OnErr result (BecomesSome old.held new.held (IsTornWrite at bytes))
  pub end : new.end ≡ old.end
  pub out : new.out ≡ old.out
  pub spare : Spends old new (length bytes)
  pub cause : HasCause old.faults new.faults result

-- what was written stays from now on
pub record Syncs (old new : DiskState) (result : Result Unit Failed) : Type 0 where
  pub ok : OnOk result (Becomes old.held new.held synced)
  pub err : OnErr result (new.held ≡ old.held)
  pub end : new.end ≡ old.end
  pub out : new.out ≡ old.out
  pub spare : Spends old new 0
  pub cause : HasCause old.faults new.faults result

-- a pen was made, and nothing else changes
pub record MakesPen {P : Type 0} (old new : DiskState) (result : Result P Refused) : Type 0 where
  pub place : KeepsPlace old new
  pub spare : KeepsSpare old new
  pub cause : RoseOnFailed old.faults new.faults result

-- a pen came back, and its faults are the disk's from now on
pub record TakesPen (faults : ℕ) (old new : DiskState) : Type 0 where
  pub place : KeepsPlace old new
  pub spare : KeepsSpare old new
  pub faults_taken : TakesIn old.faults new.faults faults

-- a range was put at the end and is out, or nothing changes
pub record Reserves {E : Type 0} (len : ℕ) (old new : DiskState) (result : Result E Refused) : Type 0 where
  pub ok : OnOk result (BecomesSome old.held new.held (IsReserved old.end len))
  pub end : OnOk result (new.end ≡ old.end + len)
  pub out : OnOk result (new.out ≡ old.out ++ record { start = old.end; len = len } ∷ [])
  pub err : OnErr result (KeepsPlace old new)
  pub spare : KeepsSpare old new
  pub cause : RoseOnFailed old.faults new.faults result

-- an extent at the end, which has no bytes yet and will tell them where the disk does
pub record IsNewExt (len : ℕ) (disk : DiskState) (ext : ExtState) : Type 0 where
  pub range : ext.range ≡ record { start = disk.end; len = len }
  pub filled : ext.filled ≡ false
  pub content : ext.content ≡ None
  pub tells : WhereHeld disk.held (λ h. ext.tells ≡ true)

-- an extent ended, and its range isn't out any more
pub record Settles (ext : ExtState) (old new : DiskState) : Type 0 where
  pub held : BecomesSome old.held new.held (IsRangeSettled ext)
  pub end : new.end ≡ old.end
  pub out : new.out ≡ without ext.range old.out
  pub spare : KeepsSpare old new
  pub faults : new.faults ≡ old.faults
