-- Three files that a crash may leave of a log.
use Rattle.std.specs.Prelude.{◌≡◌, ℕ, zero, suc, ◌+◌, ◌≤◌, List, [], ◌∷◌, ◌++◌, length, take, drop, map, replicate, Option, Some, None}
use Rattle.std.specs.Prelude.{IfSome}
use Rattle.std.specs.Option.{option_map}
use Rattle.std.specs.Coded.{×_prop, Unit-prop, le_prop}
use Rattle.std.proofs.Props.{props}
use Rattle.nt_lists.specs.Places.{put_at}
use Rattle.nt_outside.specs.Crash.{LeavesBehind}
use Rattle.nt_outside.specs.World.{Stored}
use Rattle.nt_outside.specs.Log.{Step, Write, FailedWrite, Append, FailedAppend, Reserve, Settle, Sync}

pub record Left : Type 0 where
  -- all steps whole: a byte of which nothing is known is 0, and a failed write of one byte leaves the old one
  pub whole : List ℕ
  -- what stood at the last sync
  pub kept : List ℕ
  -- each byte, the newest where only writes of that one byte cover its place since the last sync; none where another step does
  pub newest : List (Option ℕ)

-- so many bytes 0
abbrev pub zeros : ℕ → List ℕ
zeros len = replicate len 0

-- so many places that a step covers which is no write of one byte
abbrev pub covered : ℕ → List (Option ℕ)
covered len = replicate len None

-- what a write of one byte leaves newest in its place
abbrev pub renew : ℕ → Option ℕ → Option ℕ
renew byte None = None
renew byte (Some old) = Some byte

-- what a write leaves newest: of one byte that byte, unless its place was covered
abbrev pub renewed : List ℕ → List (Option ℕ) → List (Option ℕ)
renewed [] old = []
renewed (byte ∷ []) old = map (renew byte) (take 1 old)
renewed (byte ∷ next ∷ bytes) old = covered (length (byte ∷ next ∷ bytes))

-- what a failed write leaves where all else is whole
abbrev pub failed_over : List ℕ → List ℕ → List ℕ
failed_over [] old = []
failed_over (byte ∷ []) old = take 1 old
failed_over (byte ∷ next ∷ bytes) old = zeros (length (byte ∷ next ∷ bytes))

-- what settling leaves where all else is whole
abbrev pub settled_bytes : ℕ → Option (List ℕ) → List ℕ
settled_bytes len (Some bytes) = bytes
settled_bytes len None = zeros len

-- what is left after one more step
abbrev pub left_after : Left → Step → Left
left_after l (Write at bytes) = record {
  whole = put_at l.whole at bytes;
  kept = l.kept;
  newest = put_at l.newest at (renewed bytes (drop at l.newest));
}
left_after l (FailedWrite at bytes) = record {
  whole = put_at l.whole at (failed_over bytes (drop at l.whole));
  kept = l.kept;
  newest = put_at l.newest at (renewed bytes (drop at l.newest));
}
left_after l (Append bytes) = record { whole = l.whole ++ bytes; kept = l.kept; newest = l.newest ++ covered (length bytes) }
left_after l (FailedAppend len) = record { whole = l.whole ++ zeros len; kept = l.kept; newest = l.newest ++ covered len }
left_after l (Reserve start len) = record { whole = l.whole ++ zeros len; kept = l.kept; newest = l.newest ++ covered len }
left_after l (Settle start len content) =
    record { whole = put_at l.whole start (settled_bytes len content); kept = l.kept; newest = put_at l.newest start (covered len) }
left_after l Sync = record { whole = l.whole; kept = l.whole; newest = map Some l.whole }

-- after these steps more
abbrev pub left_from : Left → List Step → Left
left_from l [] = l
left_from l (step ∷ steps) = left_from (left_after l step) steps

-- before the first step
abbrev pub nothing_left : Left
nothing_left = record { whole = []; kept = []; newest = [] }

-- after all these steps
abbrev pub left_by : List Step → Left
left_by log = left_from nothing_left log

-- 255 where a place is covered
abbrev pub worst : Option ℕ → ℕ
worst None = 255
worst (Some byte) = byte

-- the file of a pick: what is kept, all whole, or the worst
abbrev pub picked_of : ℕ → Left → List ℕ
picked_of zero l = l.kept
picked_of (suc zero) l = l.whole
picked_of (suc (suc pick)) l = map worst l.newest

-- the file of a pick after these steps
abbrev pub picked_file : ℕ → List Step → List ℕ
picked_file pick log = picked_of pick (left_by log)

-- the length of a file after one more step
abbrev pub length_after : ℕ → Step → ℕ
length_after len (Append bytes) = len + length bytes
length_after len (FailedAppend more) = len + more
length_after len (Reserve start more) = len + more
length_after len _ = len

-- a step writes inside a file of this length, and settles a range with as many bytes
abbrev pub IsInside : ℕ → Step → Type 0
IsInside len (Write at bytes) = at + length bytes ≤ len
IsInside len (FailedWrite at bytes) = at + length bytes ≤ len
IsInside len (Settle start more (Some bytes)) = (length bytes ≡ more) × (start + more ≤ len)
IsInside len (Settle start more None) = start + more ≤ len
IsInside len _ = Unit {0}

-- each of these steps does, in a file of this length at first
abbrev pub AreInside : ℕ → List Step → Type 0
AreInside len [] = Unit {0}
AreInside len (step ∷ steps) = IsInside len step × AreInside (length_after len step) steps

IsInside-prop : (len : ℕ) (step : Step) → IsProp (IsInside len step)
IsInside-prop len (Write at bytes) = le_prop
IsInside-prop len (FailedWrite at bytes) = le_prop
IsInside-prop len (Append bytes) = Unit-prop
IsInside-prop len (FailedAppend more) = Unit-prop
IsInside-prop len (Reserve start more) = Unit-prop
IsInside-prop len (Settle start more (Some bytes)) = Prim.hlevel props
IsInside-prop len (Settle start more None) = le_prop
IsInside-prop len Sync = Unit-prop

-- that they do is told in one way
pub AreInside-prop : (len : ℕ) (log : List Step) → IsProp (AreInside len log)
AreInside-prop len [] = Unit-prop
AreInside-prop len (step ∷ log) = ×_prop (IsInside-prop len step) (AreInside-prop (length_after len step) log)

-- the file that a crash after the first so many steps leaves under a name, if a disk wrote it
abbrev pub picked_under : ℕ → ℕ → Option Stored → Option (List ℕ)
picked_under count pick None = None
picked_under count pick (Some s) = option_map (λ log. picked_file pick (take count log)) s.log

-- a crash after the first so many steps of the disk that wrote it may leave the file under a name so
abbrev pub MayBeLeft : Option Stored → ℕ → List ℕ → Type 0
MayBeLeft None count bytes = ⊥
MayBeLeft (Some s) count bytes = IfSome s.log (λ log. LeavesBehind log count bytes)
