-- The file of a pick is one that a crash may leave.
use Rattle.std.proofs.Common.{◌≡◌, ◌∙◌, ap, sym, subst, refl, ℕ, zero, suc, ◌+◌, ◌≤◌, List, [], ◌∷◌, ◌++◌, length, take, drop, map, arith}
use Rattle.std.proofs.Common.{length-append, length-take, length-drop}
use Rattle.std.specs.Prelude.{Option, Some, None, IsTrue}
use Rattle.nt_lists.specs.Places.{put_at}
use Rattle.nt_outside.specs.Log.{Step, Write, FailedWrite, Append, FailedAppend, Reserve, Settle, Sync}
use Rattle.nt_outside.specs.Reads.{Known, after_step, known_from, known_of, all_allowed, Reads}
use Rattle.nt_outside.specs.Crash.{Crash, crash_after, crash_from, crash_of, no_crash, MayLeave, LeavesBehind}
use Rattle.nt_disk_log.specs.Left.{Left, nothing_left, left_after, left_from, left_by, worst, picked_file, length_after, IsInside}
use Rattle.nt_disk_log.specs.Left.{AreInside}
use Rattle.nt_disk_log.proofs.Allowed.{allowed-take, allowed-length}
use Rattle.nt_disk_log.proofs.Following.{A, Follows, follows-step, worst-of}

-- the length after all steps
abbrev longest : ℕ → List Step → ℕ
longest len [] = len
longest len (step ∷ steps) = longest (length_after len step) steps

follows-all : (log : List Step) (c : Crash) (l : Left) (len : ℕ) → Follows c l len → AreInside len log
    → Follows (crash_from c log) (left_from l log) (longest len log)
follows-all [] c l len f inside = f
follows-all (step ∷ log) c l len f inside = follows-all log (crash_after c step) (left_after l step) (length_after len step)
    (follows-step c l len step f inside.0) inside.1

pub inside-take : (count len : ℕ) (log : List Step) → AreInside len log → AreInside len (take count log)
inside-take zero len log inside = tt
inside-take (suc n) len [] inside = tt
inside-take (suc n) len (step ∷ log) inside = (inside.0, inside-take n (length_after len step) log inside.1)

-- the length after all steps
known-after : (c : Crash) (step : Step) → (crash_after c step).known ≡ after_step c.known step
known-after c (Write at bytes) = refl
known-after c (FailedWrite at bytes) = refl
known-after c (Append bytes) = refl
known-after c (FailedAppend len) = refl
known-after c (Reserve start len) = refl
known-after c (Settle start len bytes) = refl
known-after c Sync = refl

known-crash_from : (c : Crash) (log : List Step) → (crash_from c log).known ≡ known_from c.known log
known-crash_from c [] = refl
known-crash_from c (s ∷ log) = known-crash_from (crash_after c s) log ∙ ap (λ (k : List Known). known_from k log) (known-after c s)

started : Follows no_crash nothing_left 0
started = record { known = refl; left = refl; more = []; kept = refl; synced = refl; newest = tt; long = refl }

-- a file that these steps may read as is as long as they make it
image-longest : (log : List Step) (image : List ℕ) → AreInside 0 log → Reads log image → length image ≡ longest 0 log
image-longest log image inside reads =
    let f = follows-all log no_crash nothing_left 0 started inside in
    let told = allowed-length (crash_of log).known (left_by log).whole f.known in
    let read = allowed-length (known_of log) image reads in
    let long = f.long in
    omega (arith, told, read, long, ap length (known-crash_from no_crash log))

inside-push : (len : ℕ) (log : List Step) (step : Step) → AreInside len log → IsInside (longest len log) step
    → AreInside len (log ++ step ∷ [])
inside-push len [] step inside one = (one, tt)
inside-push len (s ∷ log) step inside one = (inside.0, inside-push (length_after len s) log step inside.1 one)

-- one more step inside the file
pub placed-step : (log log' : List Step) (step : Step) (image : List ℕ) → AreInside 0 log → Reads log image → log' ≡ log ++ step ∷ []
    → IsInside (length image) step → AreInside 0 log'
placed-step log log' step image inside reads is one =
    subst (AreInside 0) (sym is)
    (inside-push 0 log step inside (subst (λ (n : ℕ). IsInside n step) (image-longest log image inside reads) one))

take-front : (xs ys : List ℕ) → take (length xs) (xs ++ ys) ≡ xs
take-front [] ys = refl
take-front (x ∷ xs) ys = ap (λ (l : List ℕ). x ∷ l) (take-front xs ys)

take-whole : (n : ℕ) (known : List Known) → length known ≤ n → take n known ≡ known
take-whole zero [] h = refl
take-whole (suc n) [] h = refl
take-whole zero (k ∷ known) h = absurd (omega (arith, h))
take-whole (suc n) (k ∷ known) h = ap (λ (l : List Known). k ∷ l) (take-whole n known (omega (arith, h)))

-- a file as long as may be
leaves-long : (c : Crash) (l : Left) (len : ℕ) (bytes : List ℕ) → Follows c l len → A c.left bytes → MayLeave c bytes
leaves-long c l len bytes f a =
    let e = allowed-length c.left bytes a in
    let k = allowed-length c.left (l.kept ++ f.more) f.kept in
    let p = length-append l.kept f.more in
    let s = f.synced in
    record {
      least = omega (arith, e, k, p, s);
      most = omega (arith, e);
      allowed = subst (λ (x : List Known). A x bytes) (sym (take-whole (length bytes) c.left (omega (arith, e)))) a;
    }

leaves-kept : (c : Crash) (l : Left) (len : ℕ) → Follows c l len → MayLeave c l.kept
leaves-kept c l len f =
    let k = allowed-length c.left (l.kept ++ f.more) f.kept in
    let p = length-append l.kept f.more in
    let s = f.synced in
    record {
      least = omega (arith, s);
      most = omega (arith, k, p);
      allowed = subst (λ (x : List ℕ). A (take (length l.kept) c.left) x) (take-front l.kept f.more) (allowed-take
          (length l.kept) c.left (l.kept ++ f.more) f.kept);
    }

picked-leaves : (log : List Step) (pick : ℕ) → Follows (crash_of log) (left_by log) (longest 0 log)
    → MayLeave (crash_of log) (picked_file pick log)
picked-leaves log zero f = leaves-kept (crash_of log) (left_by log) (longest 0 log) f
picked-leaves log (suc zero) f = leaves-long (crash_of log) (left_by log) (longest 0 log) (left_by log).whole f f.left
picked-leaves log (suc (suc p)) f =
    leaves-long (crash_of log) (left_by log) (longest 0 log) (map worst (left_by log).newest) f (worst-of (crash_of log).left
    (left_by log).newest f.newest)

pub picked-left : (log : List Step) (count pick : ℕ) → AreInside 0 log → LeavesBehind log count (picked_file pick (take count log))
picked-left log count pick inside =
    picked-leaves (take count log) pick (follows-all (take count log) no_crash nothing_left 0
    (record {
      known = refl;
      left = refl;
      more = [];
      kept = refl;
      synced = refl;
      newest = tt;
      long =
          refl;
    }) (inside-take count 0 log inside))
