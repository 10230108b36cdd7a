-- What a log reads as: each byte is that of the last step that covers it.
use Rattle.std.specs.Prelude.{◌≡◌, ℕ, ◌==◌, List, [], ◌∷◌, ◌++◌, length, take, drop, map, replicate, Option, Some, None, Bool, true, false}
use Rattle.std.specs.Prelude.{◌&&◌, IsTrue}
use Rattle.std.specs.List.{list_any}
use Rattle.nt_lists.specs.Places.{put_at}
use Rattle.nt_outside.specs.Log.{Step, Write, FailedWrite, Append, FailedAppend, Reserve, Settle, Sync}

-- what a log tells of one byte: nothing, or that it is one of these
pub data Known : Type 0 where
  Anything : Known
  OneOf : List ℕ → Known

-- the byte is this one
abbrev pub exactly : ℕ → Known
exactly byte = OneOf (byte ∷ [])

-- the byte is this one, or what it was
abbrev pub or_also : ℕ → Known → Known
or_also byte Anything = Anything
or_also byte (OneOf bytes) = OneOf (byte ∷ bytes)

-- so many bytes of which nothing is told
abbrev pub unknown : ℕ → List Known
unknown len = replicate len Anything

-- a write that failed leaves anything in its place; of a single byte, the old or the new one
abbrev pub torn : List ℕ → List Known → List Known
torn [] old = []
torn (byte ∷ []) old = map (or_also byte) (take 1 old)
torn (byte ∷ next ∷ bytes) old = unknown (length (byte ∷ next ∷ bytes))

-- what settling tells of the bytes of a range
abbrev pub settled : ℕ → Option (List ℕ) → List Known
settled len (Some bytes) = map exactly bytes
settled len None = unknown len

-- one more step
abbrev pub after_step : List Known → Step → List Known
after_step known (Write at bytes) = put_at known at (map exactly bytes)
after_step known (FailedWrite at bytes) = put_at known at (torn bytes (drop at known))
after_step known (Append bytes) = known ++ map exactly bytes
after_step known (FailedAppend len) = known ++ unknown len
after_step known (Reserve start len) = known ++ unknown len
after_step known (Settle start len bytes) = put_at known start (settled len bytes)
after_step known Sync = known

-- all these steps
abbrev pub known_from : List Known → List Step → List Known
known_from known [] = known
known_from known (step ∷ steps) = known_from (after_step known step) steps

-- what a log tells of each byte of the file
abbrev pub known_of : List Step → List Known
known_of log = known_from [] log

-- a byte may be this one
abbrev pub allows : Known → ℕ → Bool
allows Anything byte = true
allows (OneOf bytes) byte = list_any (λ one. one == byte) bytes

-- as many bytes as are told of, and each may be so
abbrev pub all_allowed : List Known → List ℕ → Bool
all_allowed [] [] = true
all_allowed [] (byte ∷ bytes) = false
all_allowed (known ∷ rest) [] = false
all_allowed (known ∷ rest) (byte ∷ bytes) = allows known byte && all_allowed rest bytes

-- the file may read so after these steps
abbrev pub Reads : List Step → List ℕ → Type 0
Reads log bytes = IsTrue (all_allowed (known_of log) bytes)

-- after these steps each byte of the file is known, and they are these
abbrev pub IsKnown : List Step → List ℕ → Type 0
IsKnown log bytes = known_of log ≡ map exactly bytes
