-- The order in which a file is written whose first byte says that it is finished: all the rest stays before that byte is written.
use Rattle.std.specs.Prelude.{◌≡◌, ℕ, List, [], ◌∷◌, ◌++◌, Option, Some}
use Rattle.nt_outside.specs.Log.{Step, Write, FailedWrite, Append, FailedAppend, Reserve, Settle, Sync}
use Rattle.nt_outside.specs.Reads.{known_of}

-- the last of these steps is a sync, so that all that was written stays
abbrev pub EndsInSync : List Step → Type 0
EndsInSync log = (front : List Step) × (log ≡ front ++ Sync ∷ [])

-- there are no bytes, or the first is 0
abbrev pub BeginsOpen : List ℕ → Type 0
BeginsOpen [] = Unit {0}
BeginsOpen (byte ∷ bytes) = byte ≡ 0

-- a step may follow these: an empty file gets 0 for its first byte, no range begins there, and what is written over that byte comes
-- right behind a sync
abbrev pub MayFollow : List Step → Step → Type 0
MayFollow log (Write at bytes) = at ≡ 0 → EndsInSync log
MayFollow log (FailedWrite at bytes) = at ≡ 0 → EndsInSync log
MayFollow log (Append bytes) = known_of log ≡ [] → BeginsOpen bytes
MayFollow log (FailedAppend len) = Unit {0}
MayFollow log (Reserve start len) = start ≡ 0 → ⊥
MayFollow log (Settle start len bytes) = start ≡ 0 → ⊥
MayFollow log Sync = Unit {0}

-- each of these steps may follow those before it
abbrev pub MayAllFollow : List Step → List Step → Type 0
MayAllFollow before [] = Unit {0}
MayAllFollow before (step ∷ log) = MayFollow before step × MayAllFollow (before ++ step ∷ []) log

-- the steps of a file whose first byte is written over only when all the rest stays
abbrev pub FirstByteLast : List Step → Type 0
FirstByteLast log = MayAllFollow [] log
