-- A disk in memory.
use Rattle.std.specs.Prelude.{◌≡◌, ℕ, ◌-◌, ◌/◌, min, Bool, if◌then◌else◌, List, [], length, take, Some, Result, vec_len, vec_capacity, refl}
use Rattle.std.proofs.Common.{subst}
use Rattle.nt_outside.specs.declared.fault.Failed.{Failed}
use Rattle.nt_outside.specs.Reads.{Reads}
use Rattle.nt_outside.specs.Held.{Held, nothing_held}
use Rattle.nt_outside.specs.Disk.{DiskState}
use Rattle.nt_disk_log.specs.Logged.{steps_of, spare_rows, spare_bytes}
use Rattle.nt_memory.specs.Tally.{FailsWhereListed}
use Rattle.nt_memory.specs.declared.tally.Tally.{Tally}
use Rattle.nt_memory.specs.declared.disk.MemDisk.{MemDisk}

-- its steps and its bytes
abbrev pub held_of : MemDisk → Held
held_of d = record { log = steps_of d.log; image = d.image.items }

-- what it holds, its ranges, its faults, and for how much there is room
abbrev pub state_of : MemDisk → DiskState
state_of d = record {
  held = Some (held_of d);
  end = length d.image.items;
  out = d.out.items;
  faults = d.tally.faults;
  spare_steps = spare_rows d.log;
  spare_bytes = min (vec_capacity d.image - vec_len d.image) (spare_bytes d.log);
}

-- its calls
abbrev pub tally_of : MemDisk → Tally
tally_of d = d.tally

-- for each pen that is still to be made, the numbers of its calls that are to fail; pens beyond these never fail
abbrev pub pens_of : MemDisk → List (List ℕ)
pens_of d = d.pens.items

-- what a failed append leaves of its bytes: the first half where appends are torn, else nothing
abbrev pub left_of_append : Bool → List ℕ → List ℕ
left_of_append torn bytes = if torn then take (length bytes / 2) bytes else []

-- the call failed where its number is listed, nowhere else unless it counts with other objects, and made no pen
pub record FailsAsListed {T : Type 0} (old new : MemDisk) (result : Result T Failed) : Type 0 where
  pub tally : FailsWhereListed (tally_of old) (tally_of new) result
  pub pens : pens_of new ≡ pens_of old
  pub torn : new.torn ≡ old.torn

-- nothing was written to it
pub record IsEmpty (d : DiskState) : Type 0 where
  pub held : d.held ≡ Some nothing_held
  pub end : d.end ≡ 0
  pub out : d.out ≡ []
  pub faults : d.faults ≡ 0

some_is : (x y : Held) → Some x ≡ Some y → x ≡ y
some_is x y e = cc

-- its length is that of its bytes, which its steps allow
pub told_of : (d : MemDisk) (h : Held) → (state_of d).held ≡ Some h → ((state_of d).end ≡ length h.image) × Reads h.log h.image
told_of d h is =
    subst (λ (k : Held). (length d.image.items ≡ length k.image) × Reads k.log k.image) (some_is (held_of d) h is) (refl, d.reads)
