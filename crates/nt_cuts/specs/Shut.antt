-- The log of a file that is shut: its first byte is 0, and nothing is written over it.
use Rattle.std.specs.Prelude.{◌≡◌, ℕ, ◌<◌, List, ◌∷◌}
use Rattle.std.specs.List.{AllByRecursion}
use Rattle.nt_outside.specs.Log.{Step, Write, FailedWrite, Append, FailedAppend, Reserve, Settle, Sync}

-- a step leaves the first byte of a file that has one as it is
abbrev pub SparesFirst : Step → Type 0
SparesFirst (Write at bytes) = 0 < at
SparesFirst (FailedWrite at bytes) = 0 < at
SparesFirst (Append bytes) = Unit {0}
SparesFirst (FailedAppend len) = Unit {0}
SparesFirst (Reserve start len) = Unit {0}
SparesFirst (Settle start len bytes) = 0 < start
SparesFirst Sync = Unit {0}

-- all of these do
abbrev pub AllSpare : List Step → Type 0
AllSpare log = AllByRecursion SparesFirst log

-- the first bytes of a file begin with 0, and each later step leaves that one as it is
pub record StaysShut (log : List Step) : Type 0 where
  pub rest : List ℕ
  pub more : List Step
  pub is : log ≡ Append (0 ∷ rest) ∷ more
  pub spares : AllSpare more
