-- Logs that are cut off, and those whose first byte is written over only right behind a sync.
use Rattle.std.proofs.Common.{◌≡◌, ap, sym, subst, refl, ℕ, zero, suc, List, [], ◌∷◌, ◌++◌, take, get_or, arith, append_assoc, append-nil}
use Rattle.std.proofs.Common.{inl, inr}
use Rattle.std.specs.Prelude.{◌⊎◌}
use Rattle.nt_outside.specs.Log.{Step, Write, FailedWrite, Append, FailedAppend, Reserve, Settle, Sync}
use Rattle.nt_outside.specs.Order.{EndsInSync, MayFollow, MayAllFollow, FirstByteLast}
use Rattle.nt_outside.specs.Crash.{crash_of, MayLeave, LeavesBehind}
use Rattle.nt_cuts.specs.Cuts.{IsOverFirst, WritesFirst, HasSync}
use Rattle.nt_cuts.specs.Shut.{SparesFirst, AllSpare, StaysShut}
use Rattle.nt_cuts.proofs.Firsts.{spared-zero}

no_sync : HasSync [] → ⊥
no_sync has = at has.before has.is
  where
    at : (before : List Step) → [] ≡ before ++ Sync ∷ has.after → ⊥
    at [] is = cc
    at (s ∷ before) is = cc

all_spare-take : (k : ℕ) (log : List Step) → AllSpare log → AllSpare (take k log)
all_spare-take zero log spare = tt
all_spare-take (suc k) [] spare = tt
all_spare-take (suc k) (s ∷ log) spare = (spare.0, all_spare-take k log spare.1)

all_spare-push : (log : List Step) (s : Step) → AllSpare log → SparesFirst s → AllSpare (log ++ s ∷ [])
all_spare-push [] s spare spares = (spares, tt)
all_spare-push (first ∷ log) s spare spares = (spare.0, all_spare-push log s spare.1 spares)

pub shut-push : (log : List Step) (s : Step) → StaysShut log → SparesFirst s → StaysShut (log ++ s ∷ [])
shut-push log s shut spares = record {
  rest = shut.rest;
  more = shut.more ++ s ∷ [];
  is = ap (λ (l : List Step). l ++ s ∷ []) shut.is;
  spares = all_spare-push shut.more s shut.spares spares;
}

shut-cut_at : (rest : List ℕ) (more : List Step) → AllSpare more → (k : ℕ) (bytes : List ℕ)
    → HasSync (take k (Append (0 ∷ rest) ∷ more)) → LeavesBehind (Append (0 ∷ rest) ∷ more) k bytes → get_or bytes 0 0 ≡ 0
shut-cut_at rest more spares zero bytes has may = absurd (no_sync has)
shut-cut_at rest more spares (suc k) bytes has may = spared-zero rest (take k more) (all_spare-take k more spares) has bytes may

-- wherever it is cut off
pub shut-cut : (log : List Step) → StaysShut log → (k : ℕ) (bytes : List ℕ) → HasSync (take k log) → LeavesBehind log k bytes
    → get_or bytes 0 0 ≡ 0
shut-cut log shut k bytes has may =
    shut-cut_at shut.rest shut.more shut.spares k bytes
    (subst (λ (l : List Step). HasSync (take k l)) shut.is has) (subst (λ (l : List Step). LeavesBehind l k bytes) shut.is may)

-- the first byte is 0, or there is none; or it was written over, and the file is whole
abbrev pub ZeroOr : (List ℕ → Type 0) → List Step → List ℕ → Type 0
ZeroOr Whole log bytes = (get_or bytes 0 0 ≡ 0) ⊎ (WritesFirst log × Whole bytes)

-- what a crash leaves wherever a log is cut off
abbrev pub Cut : (List ℕ → Type 0) → List Step → Type 0
Cut Whole log = (k : ℕ) (bytes : List ℕ) → HasSync (take k log) → LeavesBehind log k bytes → ZeroOr Whole (take k log) bytes

pub cut-shut : (Whole : List ℕ → Type 0) (log : List Step) → StaysShut log → Cut Whole log
cut-shut Whole log shut k bytes has may = inl (shut-cut log shut k bytes has may)

take-nil : (k : ℕ) → ◌≡◌ {A = List Step} (take k []) []
take-nil zero = refl
take-nil (suc k) = refl

take-push : (k : ℕ) (log : List Step) (s : Step) → (take k (log ++ s ∷ []) ≡ take k log) ⊎ (take k (log ++ s ∷ []) ≡ log ++ s ∷ [])
take-push zero log s = inl refl
take-push (suc k) [] s = inr (ap (λ (l : List Step). s ∷ l) (take-nil k))
take-push (suc k) (x ∷ log) s = at (take-push k log s)
  where
    at : (take k (log ++ s ∷ []) ≡ take k log) ⊎ (take k (log ++ s ∷ []) ≡ log ++ s ∷ [])
        → (x ∷ take k (log ++ s ∷ []) ≡ x ∷ take k log) ⊎ (x ∷ take k (log ++ s ∷ []) ≡ x ∷ (log ++ s ∷ []))
    at (inl e) = inl (ap (λ (l : List Step). x ∷ l) e)
    at (inr e) = inr (ap (λ (l : List Step). x ∷ l) e)

-- a log with one more step is cut off before it, or not at all
pub cut-push : (Whole : List ℕ → Type 0) (log : List Step) (s : Step) → Cut Whole log
    → ((bytes : List ℕ) → MayLeave (crash_of (log ++ s ∷ [])) bytes → ZeroOr Whole (log ++ s ∷ []) bytes)
    → Cut Whole (log ++ s ∷ [])
cut-push Whole log s cut whole k bytes has may = at (take-push k log s)
  where
    at : (take k (log ++ s ∷ []) ≡ take k log) ⊎ (take k (log ++ s ∷ []) ≡ log ++ s ∷ [])
        → ZeroOr Whole (take k (log ++ s ∷ [])) bytes
    at (inl e) =
        subst (λ (l : List Step). ZeroOr Whole l bytes) (sym e)
        (cut k bytes (subst HasSync e has) (subst (λ (l : List Step). MayLeave (crash_of l) bytes) e may))
    at (inr e) =
        subst (λ (l : List Step). ZeroOr Whole l bytes) (sym e)
        (whole bytes (subst (λ (l : List Step). MayLeave (crash_of l) bytes) e may))

all_follow-take : (before log : List Step) (k : ℕ) → MayAllFollow before log → MayAllFollow before (take k log)
all_follow-take before log zero h = tt
all_follow-take before [] (suc k) h = tt
all_follow-take before (s ∷ log) (suc k) h = (h.0, all_follow-take (before ++ s ∷ []) log k h.1)

spares_or_over : (before : List Step) (step : Step) → MayFollow before step → SparesFirst step ⊎ (IsOverFirst step × EndsInSync before)
spares_or_over before (Write zero bytes) h = inr (refl, h refl)
spares_or_over before (Write (suc n) bytes) h = inl (omega arith)
spares_or_over before (FailedWrite zero bytes) h = inr (refl, h refl)
spares_or_over before (FailedWrite (suc n) bytes) h = inl (omega arith)
spares_or_over before (Append bytes) h = inl tt
spares_or_over before (FailedAppend len) h = inl tt
spares_or_over before (Reserve start len) h = inl tt
spares_or_over before (Settle zero len bytes) h = absurd (h refl)
spares_or_over before (Settle (suc n) len bytes) h = inl (omega arith)
spares_or_over before Sync h = inl tt

-- one of these steps, behind those before, is over the first byte
record FindsFirst (before log : List Step) : Type 0 where
  front : List Step
  step : Step
  after : List Step
  is : log ≡ front ++ step ∷ after
  over : IsOverFirst step
  kept : EndsInSync (before ++ front)

find_first : (before log : List Step) → MayAllFollow before log → AllSpare log ⊎ FindsFirst before log
find_first before [] h = inl tt
find_first before (s ∷ log) h = at (spares_or_over before s h.0) (find_first (before ++ s ∷ []) log h.1)
  where
    at : SparesFirst s ⊎ (IsOverFirst s × EndsInSync before) → AllSpare log ⊎ FindsFirst (before ++ s ∷ []) log
        → AllSpare (s ∷ log) ⊎ FindsFirst before (s ∷ log)
    at (inl spares) (inl all) = inl (spares, all)
    at (inl spares) (inr found) =
        inr (record {
          front = s ∷ found.front;
          step = found.step;
          after = found.after;
          is = ap (λ (l : List Step). s ∷ l) found.is;
          over = found.over;
          kept = subst EndsInSync (append_assoc before (s ∷ []) found.front) found.kept;
        })
    at (inr over) next =
        let kept : EndsInSync (before ++ []) = subst EndsInSync (sym (append-nil before)) over.1 in
        inr (record { front = []; step = s; after = log; is = refl; over = over.0; kept = kept })

-- where the order of the steps is all that is known, nothing is said of the file
abbrev IsAny : List ℕ → Type 0
IsAny left = Unit {0}

-- a log that begins with these bytes
abbrev begins : ℕ → List ℕ → List Step → List Step
begins byte bytes log = Append (byte ∷ bytes) ∷ log

ordered-at : (bytes : List ℕ) (log : List Step) → MayAllFollow (begins 0 bytes []) log → Cut IsAny (begins 0 bytes log)
ordered-at bytes log order zero left has may = absurd (no_sync has)
ordered-at bytes log order (suc k) left has may = at (find_first first (take k log) (all_follow-take first log k order))
  where
    first : List Step
    first = begins 0 bytes []

    at : AllSpare (take k log) ⊎ FindsFirst (begins 0 bytes []) (take k log) → ZeroOr IsAny (begins 0 bytes (take k log)) left
    at (inl spares) = inl (spared-zero bytes (take k log) spares has left may)
    at (inr found) =
        inr (
          record {
            before = begins 0 bytes found.front;
            step = found.step;
            after = found.after;
            is = ap (λ (l : List Step). Append (0 ∷ bytes) ∷ l) found.is;
            over = found.over;
            kept = found.kept;
          },
          tt,
        )

pub ordered : (byte : ℕ) (bytes : List ℕ) (log : List Step) → FirstByteLast (Append (byte ∷ bytes) ∷ log)
    → Cut (λ (left : List ℕ). Unit {0}) (Append (byte ∷ bytes) ∷ log)
ordered byte bytes log order =
    subst (λ (b : ℕ). Cut IsAny (begins b bytes log)) (sym (order.0 refl))
    (ordered-at bytes log (subst (λ (b : ℕ). MayAllFollow (begins b bytes []) log) (order.0 refl) order.1))
