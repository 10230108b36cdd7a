-- Places of a file that later steps of a writer leave alone.
use Rattle.std.specs.Prelude.{ℕ, length}
use Rattle.nt_outside.specs.Log.{Step, Write, FailedWrite, Append, FailedAppend, Reserve, Settle, Sync}
use Rattle.nt_logged.specs.Stands.{LieApart}

-- a step covers none of so many bytes at a place: what is appended or reserved stands behind all that there was
abbrev pub SparesPlace : ℕ → ℕ → Step → Type 0
SparesPlace at len (Write place bytes) = LieApart at len place (length bytes)
SparesPlace at len (FailedWrite place bytes) = LieApart at len place (length bytes)
SparesPlace at len (Append bytes) = Unit {0}
SparesPlace at len (FailedAppend more) = Unit {0}
SparesPlace at len (Reserve start more) = Unit {0}
SparesPlace at len (Settle start more bytes) = LieApart at len start more
SparesPlace at len Sync = Unit {0}
