-- What the calls of a host in memory that open something do, each and together.
use Rattle.std.specs.Prelude.{◌≡◌, ◌⊎◌, ◌+◌, ◌^◌, ◌<◌, ◌≤◌, ◌++◌, ◌∷◌, [], List, ℕ, vec_len, vec_capacity, Option, Some, IfSome}
use Rattle.std.specs.Prelude.{None, OnSome, IfNone, IsNone, Result, OnOk}
use Rattle.nt_outside.specs.declared.fault.Refused.{Refused}
use Rattle.nt_outside.specs.Faults.{Rose}
use Rattle.nt_outside.specs.World.{Asked, HostState}
use Rattle.nt_memory.specs.declared.plan.Plan.{Plan}
use Rattle.nt_memory.specs.declared.tally.Tally.{Tally}
use Rattle.nt_memory.specs.declared.host.MemHost.{MemHost}
use Rattle.nt_memory.specs.declared.disk.MemDisk.{MemDisk}
use Rattle.nt_memory.specs.declared.plan.Object.TheVariants.{Text, File, Disk}
use Rattle.nt_memory.specs.declared.text.MemSource.{MemSource}
use Rattle.nt_memory.specs.declared.file.MemFile.{MemFile}
use Rattle.nt_memory.specs.Text as text
use Rattle.nt_memory.specs.File as file
use Rattle.nt_memory.specs.Disk as disk
use Rattle.nt_memory.specs.Host.{state_of, world_of, tally_of, plan_of, room_of_host, listed_of, listed_of_pens}
use Rattle.nt_memory.specs.Streams.{IsRoomy}
use Rattle.nt_memory.specs.Tally.{IsListed, new_tally, call_counted, failed}

-- one call more can be kept, some prints have room, and one object more can be counted as out
pub record MayOpen (h : MemHost) : Type 0 where
  pub place : vec_len h.asked < vec_capacity h.asked
  pub room : IsRoomy (room_of_host h)
  pub few : h.opened + 1 < 2 ^ 64

-- nothing changed but room
pub record IsSameHost (old new : MemHost) : Type 0 where
  pub state : state_of new ≡ state_of old
  pub tally : tally_of new ≡ tally_of old
  pub plan : plan_of new ≡ plan_of old

-- a call gives what was found, unless nothing was or it is to fail, and is counted
pub record Admits {T : Type 0} (found : Option T) (old new : Tally) (result : Option T) : Type 0 where
  pub some : IfSome result (λ x. found ≡ Some x)
  pub listed : IsListed old → IsNone result
  pub only : old.trip ≡ None → IfNone result (IsListed old ⊎ IsNone found)
  pub counted : OnSome result (new ≡ call_counted old)
  pub failed : IfNone result (new ≡ failed old)

-- what a call asks for is kept, and where it gives nothing its fault is counted
pub record KeepsAsked {T : Type 0} (asked : Asked) (old new : HostState) (result : Option T) : Type 0 where
  pub more : new.asked ≡ old.asked ++ asked ∷ []
  pub later : old.faults ≤ new.faults
  pub rose : IfNone result (Rose old.faults new.faults)
  pub err_faults : new.err_faults ≡ old.err_faults
  pub opened : new.opened ≡ old.opened

-- what the host holds, plans and has room for stays
pub record HoldsSame (old new : MemHost) : Type 0 where
  pub world : world_of new ≡ world_of old
  pub plan : plan_of new ≡ plan_of old
  pub room : room_of_host new ≡ room_of_host old
  pub files : new.files ≡ old.files
  pub created : new.created ≡ old.created

-- once something was opened the plan is this, and some prints have room
pub record IsLeftWith {T : Type 0} (plan : Plan) (new : MemHost) (result : Result T Refused) : Type 0 where
  pub plan_is : plan_of new ≡ plan
  pub room : OnOk result (IsRoomy (room_of_host new))

-- the calls of a text that are to fail are those that the host lists, and its reads give at most as much as the host says
pub record IsListedText (h : MemHost) (t : MemSource) : Type 0 where
  pub calls : text.tally_of t ≡ new_tally (listed_of h (Text (plan_of h).texts)) (plan_of h).trip
  pub most : text.most_of t ≡ (plan_of h).most

-- the calls of a file that are to fail are those that the host lists
abbrev pub IsListedFile : MemHost → MemFile → Type 0
IsListedFile h f = file.tally_of f ≡ new_tally (listed_of h (File (plan_of h).files)) (plan_of h).trip

-- the calls of a disk and of its pens that are to fail are those that the host lists, and its appends are torn as it says
pub record IsListedDisk (h : MemHost) (d : MemDisk) : Type 0 where
  pub calls : disk.tally_of d ≡ new_tally (listed_of h Disk) (plan_of h).disk_trip
  pub pens : disk.pens_of d ≡ listed_of_pens h
  pub torn : d.torn ≡ (plan_of h).torn
