-- What a disk holds, and what each step does to that, where it is told.
use Rattle.std.specs.Prelude.{◌≡◌, ◌⊎◌, ℕ, ◌≤◌, List, [], ◌∷◌, ◌++◌, length, Option, Some}
use Rattle.nt_lists.specs.Places.{put_at}
use Rattle.nt_outside.specs.Log.{Step, Write, FailedWrite, Append, FailedAppend, Reserve, Settle, Sync}
use Rattle.nt_outside.specs.Range.{ExtState}

-- the steps so far, and the bytes that stand there
pub record Held : Type 0 where
  pub log : List Step
  pub image : List ℕ

abbrev pub nothing_held : Held
nothing_held = record { log = []; image = [] }

abbrev pub appended : List ℕ → Held → Held
appended bytes h = record { log = h.log ++ Append bytes ∷ []; image = h.image ++ bytes }

abbrev pub written : ℕ → List ℕ → Held → Held
written at bytes h = record { log = h.log ++ Write at bytes ∷ []; image = put_at h.image at bytes }

abbrev pub synced : Held → Held
synced h = record { log = h.log ++ Sync ∷ []; image = h.image }

-- an append that failed leaves some bytes, at most as many as were asked for
pub record IsTornAppend (most : ℕ) (old new : Held) : Type 0 where
  pub junk : List ℕ
  pub few : length junk ≤ most
  pub log : new.log ≡ old.log ++ FailedAppend (length junk) ∷ []
  pub image : new.image ≡ old.image ++ junk

-- a write that failed leaves some bytes in its place; of a single byte, the old or the new one
pub record IsTornWrite (at : ℕ) (bytes : List ℕ) (old new : Held) : Type 0 where
  pub junk : List ℕ
  pub same_length : length junk ≡ length bytes
  pub log : new.log ≡ old.log ++ FailedWrite at bytes ∷ []
  pub image : new.image ≡ put_at old.image at junk
  pub single : length bytes ≡ 1 → (new.image ≡ old.image) ⊎ (new.image ≡ put_at old.image at bytes)

-- some bytes stand at the end for a range that was reserved
pub record IsReserved (start len : ℕ) (old new : Held) : Type 0 where
  pub junk : List ℕ
  pub whole : length junk ≡ len
  pub log : new.log ≡ old.log ++ Reserve start len ∷ []
  pub image : new.image ≡ old.image ++ junk

-- the range has its extent's bytes, or some unknown ones
pub record IsRangeSettled (ext : ExtState) (old new : Held) : Type 0 where
  pub bytes : List ℕ
  pub whole : length bytes ≡ ext.range.len
  pub given : (content : List ℕ) → ext.content ≡ Some content → bytes ≡ content
  pub log : new.log ≡ old.log ++ Settle ext.range.start ext.range.len ext.content ∷ []
  pub image : new.image ≡ put_at old.image ext.range.start bytes

-- what is held becomes this, where it is told
abbrev pub Becomes : Option Held → Option Held → (Held → Held) → Type 0
Becomes old new step = (h : Held) → old ≡ Some h → new ≡ Some (step h)

-- what is held becomes something of this kind, where it is told
abbrev pub BecomesSome : Option Held → Option Held → (Held → Held → Type 0) → Type 0
BecomesSome old new step = (h : Held) → old ≡ Some h → (h' : Held) × (new ≡ Some h') × step h h'

-- a fact of what is held, where it is told
abbrev pub WhereHeld : Option Held → (Held → Type 0) → Type 0
WhereHeld held P = (h : Held) → held ≡ Some h → P h
