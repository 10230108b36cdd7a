-- What a crash leaves of the first byte.
use Rattle.std.proofs.Common.{◌≡◌, ap, sym, subst, refl, ℕ, zero, suc, ◌<◌, ◌==◌, Bool, true, false, List, [], ◌∷◌, ◌++◌, length, take}
use Rattle.std.proofs.Common.{drop, map, get_or, arith, eqb-true}
use Rattle.std.specs.Prelude.{◌||◌, IsTrue}
use Rattle.nt_lists.specs.Places.{put_at}
use Rattle.nt_lists.proofs.Bools.{and_first}
use Rattle.nt_outside.specs.Log.{Step, Write, FailedWrite, Append, FailedAppend, Reserve, Settle, Sync}
use Rattle.nt_outside.specs.Reads.{Known, exactly, unknown, torn, settled, after_step, all_allowed}
use Rattle.nt_outside.specs.Crash.{Crash, no_crash, shaken, crash_after, crash_from, crash_of, MayLeave}
use Rattle.nt_cuts.specs.Cuts.{HasSync}
use Rattle.nt_cuts.specs.Shut.{SparesFirst, AllSpare}

-- of the first byte it is known that it is 0
abbrev pub IsShut : List Known → Type 0
IsShut known = (rest : List Known) × (known ≡ exactly 0 ∷ rest)

put-zero : (rest items : List Known) (at : ℕ) → 0 < at → IsShut (put_at (exactly 0 ∷ rest) at items)
put-zero rest items zero behind = absurd (omega arith)
put-zero rest items (suc n) behind = (_, refl)

put-shut : (known items : List Known) (at : ℕ) → 0 < at → IsShut known → IsShut (put_at known at items)
put-shut known items at behind shut =
    subst (λ (k : List Known). IsShut (put_at k at items)) (sym shut.1) (put-zero shut.0 items at behind)

append-shut : (known more : List Known) → IsShut known → IsShut (known ++ more)
append-shut known more shut = (shut.0 ++ more, ap (λ (k : List Known). k ++ more) shut.1)

pub told-shut : (known : List Known) (step : Step) → SparesFirst step → IsShut known → IsShut (after_step known step)
told-shut known (Write at bytes) spares shut = put-shut known (map exactly bytes) at spares shut
told-shut known (FailedWrite at bytes) spares shut = put-shut known (torn bytes (drop at known)) at spares shut
told-shut known (Append bytes) spares shut = append-shut known (map exactly bytes) shut
told-shut known (FailedAppend len) spares shut = append-shut known (unknown len) shut
told-shut known (Reserve start len) spares shut = append-shut known (unknown len) shut
told-shut known (Settle start len bytes) spares shut = put-shut known (settled len bytes) start spares shut
told-shut known Sync spares shut = shut

left-shut : (left : List Known) (step : Step) → SparesFirst step → IsShut left → IsShut (shaken left step)
left-shut left (Write at bytes) spares shut = put-shut left (torn bytes (drop at left)) at spares shut
left-shut left (FailedWrite at bytes) spares shut = put-shut left (torn bytes (drop at left)) at spares shut
left-shut left (Append bytes) spares shut = append-shut left (unknown (length bytes)) shut
left-shut left (FailedAppend len) spares shut = append-shut left (unknown len) shut
left-shut left (Reserve start len) spares shut = append-shut left (unknown len) shut
left-shut left (Settle start len bytes) spares shut = put-shut left (unknown len) start spares shut
left-shut left Sync spares shut = shut

-- the file tells 0 there, and a crash leaves 0 there
record IsShutCrash (c : Crash) : Type 0 where
  known : IsShut c.known
  left : IsShut c.left

known-shut : (c : Crash) (step : Step) → SparesFirst step → IsShut c.known → IsShut (crash_after c step).known
known-shut c (Write at bytes) spares shut = told-shut c.known (Write at bytes) spares shut
known-shut c (FailedWrite at bytes) spares shut = told-shut c.known (FailedWrite at bytes) spares shut
known-shut c (Append bytes) spares shut = told-shut c.known (Append bytes) spares shut
known-shut c (FailedAppend len) spares shut = told-shut c.known (FailedAppend len) spares shut
known-shut c (Reserve start len) spares shut = told-shut c.known (Reserve start len) spares shut
known-shut c (Settle start len bytes) spares shut = told-shut c.known (Settle start len bytes) spares shut
known-shut c Sync spares shut = shut

stay-shut : (c : Crash) (step : Step) → SparesFirst step → IsShutCrash c → IsShut (crash_after c step).left
stay-shut c (Write at bytes) spares shut = left-shut c.left (Write at bytes) spares shut.left
stay-shut c (FailedWrite at bytes) spares shut = left-shut c.left (FailedWrite at bytes) spares shut.left
stay-shut c (Append bytes) spares shut = left-shut c.left (Append bytes) spares shut.left
stay-shut c (FailedAppend len) spares shut = left-shut c.left (FailedAppend len) spares shut.left
stay-shut c (Reserve start len) spares shut = left-shut c.left (Reserve start len) spares shut.left
stay-shut c (Settle start len bytes) spares shut = left-shut c.left (Settle start len bytes) spares shut.left
stay-shut c Sync spares shut = shut.known

crash-shut : (c : Crash) (log : List Step) → AllSpare log → IsShutCrash c → IsShutCrash (crash_from c log)
crash-shut c [] spares shut = shut
crash-shut c (s ∷ log) spares shut =
    crash-shut (crash_after c s) log spares.1 (record { known = known-shut c s spares.0 shut.known; left = stay-shut c s spares.0 shut })

sync-shut : (c : Crash) (before after : List Step) → AllSpare (before ++ Sync ∷ after) → IsShut c.known
    → IsShutCrash (crash_from c (before ++ Sync ∷ after))
sync-shut c [] after spares shut = crash-shut (crash_after c Sync) after spares.1 (record { known = shut; left = shut })
sync-shut c (s ∷ before) after spares shut = sync-shut (crash_after c s) before after spares.1 (known-shut c s spares.0 shut)

or_none : (b : Bool) → IsTrue (b || false) → b ≡ true
or_none true h = refl
or_none false h = h

allowed-zero : (rest : List Known) (bytes : List ℕ) → IsTrue (all_allowed (take (length bytes) (exactly 0 ∷ rest)) bytes)
    → get_or bytes 0 0 ≡ 0
allowed-zero rest [] h = refl
allowed-zero rest (b ∷ bytes) h =
    sym (eqb-true 0 b (or_none (0 == b) (and_first ((0 == b) || false) (all_allowed (take (length bytes) rest) bytes) h)))

left-zero : (c : Crash) (bytes : List ℕ) → IsShut c.left → MayLeave c bytes → get_or bytes 0 0 ≡ 0
left-zero c bytes shut may =
    allowed-zero shut.0 bytes (subst (λ (k : List Known). IsTrue (all_allowed (take (length bytes) k) bytes)) shut.1 may.allowed)

-- behind a sync, and where no step writes over the first byte, a crash leaves 0 there
pub spared-zero : (rest : List ℕ) (log : List Step) → AllSpare log → HasSync (Append (0 ∷ rest) ∷ log) → (bytes : List ℕ)
    → MayLeave (crash_of (Append (0 ∷ rest) ∷ log)) bytes → get_or bytes 0 0 ≡ 0
spared-zero rest log spares has bytes may = at has.before has.is
  where
    first : Crash
    first = crash_after no_crash (Append (0 ∷ rest))

    at : (before : List Step) → Append (0 ∷ rest) ∷ log ≡ before ++ Sync ∷ has.after → get_or bytes 0 0 ≡ 0
    at [] is = cc
    at (s ∷ before) is =
        let same : log ≡ before ++ Sync ∷ has.after = ap (drop 1) is in
        left-zero (crash_from first log) bytes
        (subst (λ (l : List Step). IsShutCrash (crash_from first l)) (sym same)
        (sync-shut first before has.after (subst AllSpare same spares) (_, refl))).left may
