-- Steps without their bytes, and those bytes one after the other.
use Rattle.std.specs.Prelude.{ℕ, Bool, true, false, Option, Some, None, ◌+◌, List, [], ◌∷◌, take, drop, if◌then◌else◌}
use Rattle.nt_outside.specs.Log.{Step}
use Rattle.nt_outside.specs.Log as disk
use Rattle.nt_disk_log.specs.declared.log.Row.{Row}
use Rattle.nt_disk_log.specs.declared.log.Row.TheVariants.{Write, FailedWrite, Append, FailedAppend, Reserve, Settle, Sync}

-- how many bytes of a step are kept
abbrev pub bytes_of : Row → ℕ
bytes_of (Write at len) = len
bytes_of (FailedWrite at len) = len
bytes_of (Append len) = len
bytes_of (FailedAppend len) = 0
bytes_of (Reserve start len) = 0
bytes_of (Settle start len known) = if known then len else 0
bytes_of Sync = 0

-- the step with these bytes
abbrev pub step : Row → List ℕ → Step
step (Write at len) bytes = disk.Write at bytes
step (FailedWrite at len) bytes = disk.FailedWrite at bytes
step (Append len) bytes = disk.Append bytes
step (FailedAppend len) bytes = disk.FailedAppend len
step (Reserve start len) bytes = disk.Reserve start len
step (Settle start len known) bytes = disk.Settle start len (if known then Some bytes else None)
step Sync bytes = disk.Sync

-- how many bytes of all steps are kept
abbrev pub total_bytes : List Row → ℕ
total_bytes [] = 0
total_bytes (row ∷ rows) = bytes_of row + total_bytes rows

-- the steps that the rows and the bytes stand for
abbrev pub steps : List Row → List ℕ → List Step
steps [] bytes = []
steps (row ∷ rows) bytes = step row (take (bytes_of row) bytes) ∷ steps rows (drop (bytes_of row) bytes)
