-- The log of a disk in memory.
use Rattle.std.specs.Prelude.{◌≡◌, ℕ, ◌+◌, ◌-◌, ◌≤◌, List, vec_len, vec_capacity, Result, OnOk}
use Rattle.std.specs.declared.alloc.AllocError.{AllocError}
use Rattle.nt_outside.specs.Log.{Step}
use Rattle.nt_disk_log.specs.Rows.{steps}
use Rattle.nt_disk_log.specs.declared.log.Log.{Log}

-- its steps, each with its bytes
abbrev pub steps_of : Log → List Step
steps_of log = steps log.rows.items log.bytes.items

-- for how many more steps there is room, beside those that will settle ranges
abbrev pub spare_rows : Log → ℕ
spare_rows log = vec_capacity log.rows - (vec_len log.rows + log.owed)

-- for how many more bytes of steps there is room, beside those of ranges
abbrev pub spare_bytes : Log → ℕ
spare_bytes log = vec_capacity log.bytes - (vec_len log.bytes + log.owed_bytes)

-- there is room for so many steps and bytes
pub record MakesRoom (rows bytes : ℕ) (log : Log) (result : Result Unit AllocError) : Type 0 where
  pub for_rows : OnOk result (rows ≤ spare_rows log)
  pub for_bytes : OnOk result (bytes ≤ spare_bytes log)

-- no room was used
pub record KeepsRoom (old new : Log) : Type 0 where
  pub rows : spare_rows old ≤ spare_rows new
  pub bytes : spare_bytes old ≤ spare_bytes new

-- there is room for so many steps with so many bytes
pub record HasRoomForSteps (rows bytes : ℕ) (log : Log) : Type 0 where
  pub for_rows : rows ≤ spare_rows log
  pub for_bytes : bytes ≤ spare_bytes log

-- the room of at most so many steps with so many bytes was used
pub record UsesRoom (more_rows more_bytes : ℕ) (old new : Log) : Type 0 where
  pub rows : spare_rows old ≤ spare_rows new + more_rows
  pub bytes : spare_bytes old ≤ spare_bytes new + more_bytes

-- there is room besides for so many steps that settle ranges, and for so many bytes in them
pub record Owes (owed_rows owed_bytes : ℕ) (log : Log) : Type 0 where
  pub rows : log.owed ≡ owed_rows
  pub bytes : log.owed_bytes ≡ owed_bytes

-- a range of so many bytes is owed, and no more of them are to settle it
pub record MaySettle (bytes len : ℕ) (log : Log) : Type 0 where
  pub row : 1 ≤ log.owed
  pub most : bytes ≤ len
  pub owed : len ≤ log.owed_bytes

-- the steps stay, and for as many of ranges there is room
pub record IsSameLog (old new : Log) : Type 0 where
  pub steps : steps_of new ≡ steps_of old
  pub owed : new.owed ≡ old.owed
  pub owed_bytes : new.owed_bytes ≡ old.owed_bytes
