-- What a crash may leave of a log. What was written before the last sync stays, until a later step covers it.
use Rattle.std.specs.Prelude.{ℕ, ◌≤◌, List, [], ◌∷◌, ◌++◌, length, take, drop, IsTrue}
use Rattle.nt_lists.specs.Places.{put_at}
use Rattle.nt_outside.specs.Log.{Step, Write, FailedWrite, Append, FailedAppend, Reserve, Settle, Sync}
use Rattle.nt_outside.specs.Reads.{Known, unknown, torn, after_step, all_allowed}

pub record Crash : Type 0 where
  -- what the steps tell of each byte of the file
  pub known : List Known
  -- what is told of each byte, to the greatest length, if a crash comes now
  pub left : List Known
  -- the least length that a crash may leave, that at the last sync
  pub synced : ℕ

-- nothing was done yet
abbrev pub no_crash : Crash
no_crash = record { known = []; left = []; synced = 0 }

-- what a step that is no sync leaves to a crash: anything where it writes; of a single byte written over, the old or the new one
abbrev pub shaken : List Known → Step → List Known
shaken left (Write at bytes) = put_at left at (torn bytes (drop at left))
shaken left (FailedWrite at bytes) = put_at left at (torn bytes (drop at left))
shaken left (Append bytes) = left ++ unknown (length bytes)
shaken left (FailedAppend len) = left ++ unknown len
shaken left (Reserve start len) = left ++ unknown len
shaken left (Settle start len bytes) = put_at left start (unknown len)
shaken left Sync = left

-- one more step; a sync keeps what stands there
abbrev pub crash_after : Crash → Step → Crash
crash_after c Sync = record { known = c.known; left = c.known; synced = length c.known }
crash_after c step = record { known = after_step c.known step; left = shaken c.left step; synced = c.synced }

-- all these steps
abbrev pub crash_from : Crash → List Step → Crash
crash_from c [] = c
crash_from c (step ∷ steps) = crash_from (crash_after c step) steps

-- what a crash may leave after these steps
abbrev pub crash_of : List Step → Crash
crash_of log = crash_from no_crash log

-- a crash may leave the file so: no shorter than at the last sync, no longer than now, and each byte as it may be
pub record MayLeave (c : Crash) (bytes : List ℕ) : Type 0 where
  pub least : c.synced ≤ length bytes
  pub most : length bytes ≤ length c.left
  pub allowed : IsTrue (all_allowed (take (length bytes) c.left) bytes)

-- a crash after the first so many steps may leave the file so
abbrev pub LeavesBehind : List Step → ℕ → List ℕ → Type 0
LeavesBehind log count bytes = MayLeave (crash_of (take count log)) bytes
