-- A host in memory.
use Rattle.std.specs.Prelude.{◌≡◌, ◌⊎◌, ℕ, ◌+◌, ◌-◌, ◌^◌, ◌<◌, min, List, [], ◌∷◌, ◌++◌, map}
use Rattle.std.specs.Prelude.{cond, Some, None, Result, OnOk, OnErr, IfOk, IsErr}
use Rattle.std.specs.Option.{option_map}
use Rattle.std.specs.String.{string_bytes}
use Rattle.std.specs.FinMap as fin
use Rattle.std.specs.declared.alloc.AllocError.{AllocError}
use Rattle.nt_outside.specs.declared.fault.Failed.{Failed}
use Rattle.nt_outside.specs.declared.stream.Stream.{Stream}
use Rattle.nt_outside.specs.World as world
use Rattle.nt_outside.specs.World.{World, HostState, asked_of}
use Rattle.nt_memory.specs.declared.plan.Object.{Object}
use Rattle.nt_memory.specs.declared.plan.Object.TheVariants as object
use Rattle.nt_memory.specs.declared.plan.Plan.{Plan}
use Rattle.nt_memory.specs.declared.tally.Tally.{Tally}
use Rattle.nt_memory.specs.declared.host.MemHost.{MemHost}
use Rattle.nt_memory.specs.Named.{files_of}
use Rattle.nt_memory.specs.Untripped.{IsUntripped}
use Rattle.nt_memory.specs.Planned.{is_same, numbers_for, pen_lists, pens_with}
use Rattle.nt_memory.specs.Streams.{Room, room_of, room_on}
use Rattle.nt_memory.specs.Tally.{new_tally, one_more, IsListed}

-- its files, its streams, the name of the disk that is out, and those of all disks
abbrev pub world_of : MemHost → World
world_of h = record {
  files = files_of h.files.items;
  out = h.streams.out.items;
  err = h.streams.err.items;
  creating = option_map string_bytes h.creating;
  created = map string_bytes h.created.items;
}

-- what it holds, what it was asked for, its faults, and how many objects are out
abbrev pub state_of : MemHost → HostState
state_of h = record {
  world = Some (world_of h);
  asked = map asked_of h.asked.items;
  faults = h.tally.faults;
  err_faults = h.err_faults;
  opened = h.opened;
}

-- its own calls
abbrev pub tally_of : MemHost → Tally
tally_of h = h.tally

-- how many texts and files it opened, and which of their calls are to fail
abbrev pub plan_of : MemHost → Plan
plan_of h = h.plan

-- the room on its streams
abbrev pub room_of_host : MemHost → Room
room_of_host h = room_of h.streams

-- the numbers of an object's calls that are to fail
abbrev pub listed_of : MemHost → Object → List ℕ
listed_of h object.Host = h.tally.listed
listed_of h o = numbers_for o h.plan.planned.items

-- for each pen of a disk, the numbers of its calls that are to fail
abbrev pub listed_of_pens : MemHost → List (List ℕ)
listed_of_pens h = pen_lists h.plan.pens h.plan.planned.items

-- one more text was opened; the count stands still at the last number of its type
abbrev pub opens_text : Plan → Plan
opens_text p = record p { texts = min (p.texts + 1) (2 ^ 32 - 1) }

-- the same for a file
abbrev pub opens_file : Plan → Plan
opens_file p = record p { files = min (p.files + 1) (2 ^ 32 - 1) }

-- nothing stands there, nothing was asked for, no call was made and none is to fail
pub record IsFresh (h : MemHost) : Type 0 where
  pub files : (world_of h).files ≡ fin.empty
  pub out : (world_of h).out ≡ []
  pub err : (world_of h).err ≡ []
  pub creating : (world_of h).creating ≡ None
  pub created : (world_of h).created ≡ []
  pub asked : (state_of h).asked ≡ []
  pub err_faults : (state_of h).err_faults ≡ 0
  pub opened : (state_of h).opened ≡ 0
  pub tally : tally_of h ≡ new_tally [] None
  pub untripped : IsUntripped (plan_of h)
  pub planned : (plan_of h).planned.items ≡ []
  pub texts : (plan_of h).texts ≡ 0
  pub opened_files : (plan_of h).files ≡ 0
  pub pens : (plan_of h).pens ≡ 0

-- these bytes stand under a name, and no disk wrote them
abbrev pub sets_file : List ℕ → List ℕ → World → World
sets_file name bytes w = record w { files = fin.insert w.files name (record { bytes = bytes; log = None }) }

-- a file was set, and nothing else changed
pub record SetsFile (name bytes : List ℕ) (old new : MemHost) (result : Result Unit AllocError) : Type 0 where
  pub ok : OnOk result (world_of new ≡ sets_file name bytes (world_of old))
  pub err : OnErr result (world_of new ≡ world_of old)
  pub asked : (state_of new).asked ≡ (state_of old).asked
  pub err_faults : (state_of new).err_faults ≡ (state_of old).err_faults
  pub opened : (state_of new).opened ≡ (state_of old).opened
  pub tally : tally_of new ≡ tally_of old
  pub plan : plan_of new ≡ plan_of old

-- a call of an object is to fail, and nothing else changed
pub record Plans (object : Object) (call : ℕ) (old new : MemHost) (result : Result Unit AllocError) : Type 0 where
  pub ok : OnOk result ((o : Object) → listed_of new o ≡ cond (is_same o object) (listed_of old o ++ call ∷ []) (listed_of old o))
  pub err : OnErr result ((o : Object) → listed_of new o ≡ listed_of old o)
  pub state : state_of new ≡ state_of old
  pub made : (tally_of new).made ≡ (tally_of old).made
  pub texts : (plan_of new).texts ≡ (plan_of old).texts
  pub opened_files : (plan_of new).files ≡ (plan_of old).files
  pub pens : OnOk result ((plan_of new).pens ≡ pens_with object (plan_of old).pens)
  pub room : room_of_host new ≡ room_of_host old

-- a print was of its whole piece, failed where its number is listed or the room was wanting, nowhere else unless it counts with other
-- objects, and was counted, its failure on its stream
pub record PrintsWhereListed (stream : Stream) (len : ℕ) (old new : MemHost) (result : Result ℕ Failed) : Type 0 where
  pub whole : IfOk result (λ n. n ≡ len)
  pub listed : IsListed (tally_of old) → IsErr result
  pub only : (tally_of old).trip ≡ None → OnErr result (IsListed (tally_of old) ⊎ (room_on stream (room_of_host old) < len))
  pub made : (tally_of new).made ≡ one_more (tally_of old).made
  pub list : (tally_of new).listed ≡ (tally_of old).listed
  pub ok : OnOk result (world.counted stream (state_of new) ≡ world.counted stream (state_of old))
  pub err : OnErr result (world.counted stream (state_of new) ≡ one_more (world.counted stream (state_of old)))
