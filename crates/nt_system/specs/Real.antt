-- What the real objects tell: counts, names that were asked for, and the length of a disk. None tells what a file or a stream holds.
use Rattle.std.specs.Prelude.{◌≡◌, ℕ, ◌-◌, ◌<◌, ◌^◌, All, Bool, true, false, IsSome, List, [], ◌∷◌, ◌++◌, length, map, Some, None, Result}
use Rattle.std.specs.Prelude.{OnOk, OnErr, ◌==◌, ◌&&◌}
use Rattle.std.specs.declared.alloc.AllocError.{AllocError}
use Rattle.std.specs.declared.io.ErrorKind.{ErrorKind}
use Rattle.std.specs.declared.io.ErrorKind.TheVariants.{OutOfMemory}
use Rattle.std.specs.List.{list_any}
use Rattle.nt_outside.specs.declared.fault.Refused.{Refused}
use Rattle.nt_outside.specs.declared.fault.Refused.TheVariants as refused
use Rattle.nt_outside.specs.Faults.{RoseOnFailed}
use Rattle.nt_outside.specs.declared.range.Range.{Range}
use Rattle.nt_outside.specs.Reads.{Reads}
use Rattle.nt_outside.specs.Range.{ExtState, IsSized}
use Rattle.nt_outside.specs.Held.{Held}
use Rattle.nt_outside.specs.Source.{SourceState}
use Rattle.nt_outside.specs.File.{FileState}
use Rattle.nt_outside.specs.Disk.{DiskState}
use Rattle.nt_outside.specs.World.{World, HostState, Asked, asked_of, file}
use Rattle.nt_system.specs.declared.named.FileId.{FileId}
use Rattle.nt_system.specs.declared.host.RealHost.{RealHost}

-- a text counts its faults
abbrev pub text_state : ℕ → SourceState
text_state faults = record { left = None; faults = faults }

-- a file counts its faults
abbrev pub file_state : ℕ → FileState
file_state faults = record { bytes = None; faults = faults }

-- an extent knows its range and whether it is filled
abbrev pub ext_state : Range → Bool → ExtState
ext_state range filled = record { range = range; filled = filled; content = None; tells = false }

-- it tells nothing of its bytes
pub unsized : (range : Range) (filled : Bool) (bytes : List ℕ) → (ext_state range filled).content ≡ Some bytes
    → IsSized (ext_state range filled) bytes
unsized range filled bytes is = absurd (cc)

-- it tells nothing, whether it is filled or not
pub unshown : (range : Range) (filled : Bool) → (ext_state range filled).filled ≡ true → (ext_state range filled).tells ≡ true
    → IsSome (ext_state range filled).content
unshown range filled is tells = absurd (cc)

-- a file tells nothing of its bytes
pub unread : (faults : ℕ) (told : List ℕ) → (file_state faults).bytes ≡ Some told → All (λ (b : ℕ). b < 2 ^ 8) told
unread faults told is = absurd (cc)

-- a disk knows its length and its ranges, and counts its faults; the system has the memory for its writes
abbrev pub disk_state : ℕ → List Range → ℕ → DiskState
disk_state end out faults = record {
  held = None;
  end = end;
  out = out;
  faults = faults;
  spare_steps = 2 ^ 64 - 1;
  spare_bytes = 2 ^ 64 - 1;
}

-- it tells nothing of what it holds
pub tells_nothing : (end : ℕ) (out : List Range) (faults : ℕ) (h : Held) → (disk_state end out faults).held ≡ Some h
    → (end ≡ length h.image) × Reads h.log h.image
tells_nothing end out faults h is = cc

-- a host knows what it was asked for, and counts what is out and its faults, those of prints on err apart
abbrev pub state_of : RealHost → HostState
state_of h = record {
  world = None;
  asked = map asked_of h.asked.items;
  faults = h.faults.count;
  err_faults = h.err_faults.count;
  opened = h.opened;
}

-- it tells nothing of its files
pub unseen : (h : RealHost) (w : World) (name told : List ℕ) → (state_of h).world ≡ Some w → file w name ≡ Some told
    → All (λ (b : ℕ). b < 2 ^ 8) told
unseen h w name told is here = absurd (cc)

-- nothing was asked for, nothing is out, and nothing failed
abbrev pub fresh : HostState
fresh = record { world = None; asked = []; faults = 0; err_faults = 0; opened = 0 }

-- the refusal of an answer of this kind of error: want of memory is no fault
abbrev pub refused_for : ErrorKind → Refused
refused_for OutOfMemory = refused.Memory
refused_for _ = refused.Failed

-- a file is one of these
abbrev pub is_file_among : FileId → List FileId → Bool
is_file_among id files = list_any (λ (other : FileId). (other.device == id.device) && (other.number == id.number)) files

-- an object was asked for, and nothing else changed; without memory for its name, nothing did
pub record Notes (object : Asked) (old new : HostState) (result : Result Unit AllocError) : Type 0 where
  pub ok : OnOk result (new.asked ≡ old.asked ++ object ∷ [])
  pub err : OnErr result (new.asked ≡ old.asked)
  pub world : new.world ≡ old.world
  pub faults : new.faults ≡ old.faults
  pub err_faults : new.err_faults ≡ old.err_faults
  pub opened : new.opened ≡ old.opened

-- an answer was counted where it is a fault, and nothing else changed
pub record Counts {T : Type 0} (old new : HostState) (result : Result T Refused) : Type 0 where
  pub asked : new.asked ≡ old.asked
  pub world : new.world ≡ old.world
  pub cause : RoseOnFailed old.faults new.faults result
  pub err_faults : new.err_faults ≡ old.err_faults
  pub opened : new.opened ≡ old.opened
