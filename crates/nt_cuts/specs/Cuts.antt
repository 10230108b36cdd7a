-- What a crash leaves of a file whose first byte says that it is finished, wherever it cuts the steps off.
use Rattle.std.specs.Prelude.{◌≡◌, ◌⊎◌, ℕ, List, ◌∷◌, ◌++◌, take, drop, IsTrue}
use Rattle.nt_outside.specs.Log.{Step, Write, FailedWrite, Append, FailedAppend, Reserve, Settle, Sync}
use Rattle.nt_outside.specs.Order.{EndsInSync}
use Rattle.nt_outside.specs.Reads.{known_of, all_allowed}
use Rattle.nt_outside.specs.Crash.{crash_of, MayLeave, LeavesBehind}
use Rattle.nt_num.specs.Codes.{unfinished}
use Rattle.nt_num.specs.Faults.{fault}
use Rattle.nt_file_meaning.specs.Files.{HasDefect}

-- a step writes over the first byte, whole or not
abbrev pub IsOverFirst : Step → Type 0
IsOverFirst (Write at bytes) = at ≡ 0
IsOverFirst (FailedWrite at bytes) = at ≡ 0
IsOverFirst (Append bytes) = ⊥
IsOverFirst (FailedAppend len) = ⊥
IsOverFirst (Reserve start len) = ⊥
IsOverFirst (Settle start len bytes) = ⊥
IsOverFirst Sync = ⊥

-- one of these steps writes over the first byte, whole or not, and comes right behind a sync
pub record WritesFirst (log : List Step) : Type 0 where
  pub before : List Step
  pub step : Step
  pub after : List Step
  pub is : log ≡ before ++ step ∷ after
  pub over : IsOverFirst step
  pub kept : EndsInSync before

-- the file may read so after these steps, but for its first byte, which is this one
abbrev pub ReadsButFirst : List Step → ℕ → List ℕ → Type 0
ReadsButFirst log byte bytes = (rest : List ℕ) × (bytes ≡ byte ∷ rest) × IsTrue (all_allowed (drop 1 (known_of log)) rest)

-- one of these steps is a sync
pub record HasSync (log : List Step) : Type 0 where
  pub before : List Step
  pub after : List Step
  pub is : log ≡ before ++ Sync ∷ after

-- wherever a crash comes behind the first sync, it leaves what isn't finished
abbrev pub LeavesUnfinished : List Step → Type 0
LeavesUnfinished log = (k : ℕ) (bytes : List ℕ) → HasSync (take k log) → LeavesBehind log k bytes → HasDefect bytes (fault unfinished 0)

-- the same, but where the first byte was written over before the crash, it may also leave what is whole in this sense
abbrev pub LeavesUnfinishedOr : (List ℕ → Type 0) → List Step → Type 0
LeavesUnfinishedOr Whole log =
    (k : ℕ) (bytes : List ℕ) → HasSync (take k log) → LeavesBehind log k bytes
    → HasDefect bytes (fault unfinished 0) ⊎ (WritesFirst (take k log) × Whole bytes)

-- a crash behind all these steps leaves nothing else
abbrev pub LeavesOnly : (List ℕ → Type 0) → List Step → Type 0
LeavesOnly Whole log = (bytes : List ℕ) → MayLeave (crash_of log) bytes → Whole bytes
