-- The room on the streams of a host in memory.
use Rattle.std.specs.Prelude.{ℕ, ◌+◌, ◌-◌, ◌≤◌, vec_len, vec_capacity}
use Rattle.nt_outside.specs.declared.stream.Stream.{Stream}
use Rattle.nt_outside.specs.declared.stream.Stream.TheVariants.{ToOut, ToErr}
use Rattle.nt_memory.specs.declared.streams.Streams.{Streams}

-- how many bytes each stream takes before it needs more memory
pub record Room : Type 0 where
  pub out : ℕ
  pub err : ℕ

-- the room on both streams
abbrev pub room_of : Streams → Room
room_of s = record { out = vec_capacity s.out - vec_len s.out; err = vec_capacity s.err - vec_len s.err }

-- the room on one of them
abbrev pub room_on : Stream → Room → ℕ
room_on ToOut room = room.out
room_on ToErr room = room.err

-- there is room for some lines on both streams
pub record IsRoomy (room : Room) : Type 0 where
  pub out : 4096 ≤ room.out
  pub err : 4096 ≤ room.err

-- a print took no more room than its piece needs
pub record SpendsRoom (more : ℕ) (old new : Room) : Type 0 where
  pub out : old.out ≤ new.out + more
  pub err : old.err ≤ new.err + more
