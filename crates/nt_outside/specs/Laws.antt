-- What a crash leaves after one more step of a log: exactly which bytes, for each kind of step.
use Rattle.std.specs.Prelude.{◌↔◌, ℕ, ◌+◌, ◌≤◌, List, [], ◌∷◌, ◌++◌, length, take, drop, map, Option}
use Rattle.nt_lists.specs.Places.{put_at}
use Rattle.nt_outside.specs.Log.{Step, Write, FailedWrite, Append, FailedAppend, Reserve, Settle}
use Rattle.nt_outside.specs.Reads.{Known, or_also, unknown}
use Rattle.nt_outside.specs.Crash.{Crash, crash_of, MayLeave}

-- what a crash left before at a place and behind, with other bytes told of there
abbrev pub over : Crash → ℕ → List Known → Crash
over c at known = record { known = c.known; left = put_at c.left at known; synced = c.synced }

-- these bytes reach at most so far behind the old end, and up to there a crash could leave them before
abbrev pub Reaches : Crash → ℕ → List ℕ → Type 0
Reaches c more bytes = (length bytes ≤ length c.left + more) × MayLeave c (take (length c.left) bytes)

-- after an append, failed or not, or a reserved range a crash leaves what it left before, and anything behind the old end
pub record Lengthens (log : List Step) : Type 0 where
  pub append : (more bytes : List ℕ) → MayLeave (crash_of (log ++ Append more ∷ [])) bytes ↔ Reaches (crash_of log) (length more) bytes
  pub failed : (more : ℕ) (bytes : List ℕ) → MayLeave (crash_of (log ++ FailedAppend more ∷ [])) bytes ↔ Reaches (crash_of log) more bytes
  pub reserve : (start more : ℕ) (bytes : List ℕ) → MayLeave (crash_of (log ++ Reserve start more ∷ [])) bytes
      ↔ Reaches (crash_of log) more bytes

-- after a write over one byte, failed or not, a crash leaves the old one or the new one; after a longer one anything; of none what it
-- left before; and each time the rest as it was
pub record Overwrites (log : List Step) : Type 0 where
  pub nothing : (at : ℕ) (bytes : List ℕ) → MayLeave (crash_of (log ++ Write at [] ∷ [])) bytes ↔ MayLeave (crash_of log) bytes
  pub single : (at byte : ℕ) (bytes : List ℕ) → MayLeave (crash_of (log ++ Write at (byte ∷ []) ∷ [])) bytes
      ↔ MayLeave (over (crash_of log) at (map (or_also byte) (take 1 (drop at (crash_of log).left)))) bytes
  pub longer : (at : ℕ) (more bytes : List ℕ) → 2 ≤ length more → MayLeave (crash_of (log ++ Write at more ∷ [])) bytes
      ↔ MayLeave (over (crash_of log) at (unknown (length more))) bytes
  pub failed : (at : ℕ) (more bytes : List ℕ) → MayLeave (crash_of (log ++ FailedWrite at more ∷ [])) bytes
      ↔ MayLeave (crash_of (log ++ Write at more ∷ [])) bytes

-- after a range is settled a crash leaves anything in it, and the rest as it was
abbrev pub Settling : List Step → Type 0
Settling log = (start len : ℕ) (content : Option (List ℕ)) (bytes : List ℕ)
    → MayLeave (crash_of (log ++ Settle start len content ∷ [])) bytes ↔ MayLeave (over (crash_of log) start (unknown len)) bytes
