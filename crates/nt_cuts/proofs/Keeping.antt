-- Logs that stay shut.
use Rattle.std.proofs.Common.{◌≡◌, refl, ap, sym, subst, ℕ, ◌+◌, ◌<◌, List, [], ◌∷◌, ◌++◌, length, arith}
use Rattle.std.specs.List.{AllByRecursion}
use Rattle.nt_lists.specs.Parts.{Part}
use Rattle.nt_outside.specs.Log.{Step, Write, FailedWrite, Append, FailedAppend, Reserve, Settle, Sync}
use Rattle.nt_outside.specs.Reads.{Known, exactly, after_step, known_from, known_of, Reads}
use Rattle.nt_outside.proofs.Known.{allowed-length}
use Rattle.nt_machine.specs.declared.entry.Entry.{Entry}
use Rattle.nt_machine.specs.Legal.{IsLegal}
use Rattle.nt_machine.specs.Spans.{Span}
use Rattle.nt_logged.specs.Stands.{IsBehind}
use Rattle.nt_logged.specs.Steps.{steps_of_history}
use Rattle.nt_logged.specs.Tails.{range_steps, IsTail}
use Rattle.nt_logged.specs.Logs.{IsLogOf}
use Rattle.nt_cuts.specs.Shut.{SparesFirst, AllSpare, StaysShut}
use Rattle.nt_cuts.proofs.Firsts.{IsShut, told-shut}

all_spare-append : (log more : List Step) → AllSpare log → AllSpare more → AllSpare (log ++ more)
all_spare-append [] more all spares = spares
all_spare-append (s ∷ log) more all spares = (all.0, all_spare-append log more all.1 spares)

-- with more steps of this kind
pub shut-append : (log steps : List Step) → StaysShut log → AllSpare steps → StaysShut (log ++ steps)
shut-append log steps shut spares = record {
  rest = shut.rest;
  more = shut.more ++ steps;
  is = ap (λ (l : List Step). l ++ steps) shut.is;
  spares = all_spare-append shut.more steps shut.spares spares;
}

-- steps of a writer, whose ranges lie behind a place
pub tail-spares : (place end : ℕ) (spans : List Span) (steps : List Step) → 0 < place → IsTail end spans steps
    → AllByRecursion (IsBehind place) (range_steps steps) → AllSpare steps
tail-spares place end spans [] some is behind = tt
tail-spares place end spans (Write at bytes ∷ steps) some is behind = absurd is.0
tail-spares place end spans (FailedWrite at bytes ∷ steps) some is behind = absurd is.0
tail-spares place end spans (Append bytes ∷ steps) some is behind =
    (tt, tail-spares place (end + length bytes) spans steps some is.1 behind)
tail-spares place end spans (FailedAppend len ∷ steps) some is behind = (tt, tail-spares place (end + len) spans steps some is.1 behind)
tail-spares place end spans (Reserve start len ∷ steps) some is behind =
    (tt, tail-spares place (end + len) (spans ++ record { start = start; len = len } ∷ []) steps some is.1 behind.1)
tail-spares place end spans (Settle start len bytes ∷ steps) some is behind =
    let first = behind.0 in
    (omega (arith, some, first), tail-spares place end spans steps some is.1 behind.1)
tail-spares place end spans (Sync ∷ steps) some is behind = absurd is.0

-- no step of a legal history covers a place before its beginning
abbrev pub StepsStand : Type 0 → Type 0
StepsStand M =
    (place : ℕ) (history : List (Entry M)) → IsLegal place history → AllByRecursion (IsBehind place) (steps_of_history history)

-- what is known of the first byte of such a file
known-shut : (known : List Known) (log : List Step) → AllSpare log → IsShut known → IsShut (known_from known log)
known-shut known [] spares shut = shut
known-shut known (s ∷ log) spares shut = known-shut (after_step known s) log spares.1 (told-shut known s spares.0 shut)

-- there is one
pub shut-some : (log : List Step) (image : List ℕ) → StaysShut log → Reads log image → 0 < length image
shut-some log image shut reads =
    let known : IsShut (known_of log) =
    subst (λ (l : List Step). IsShut (known_of l)) (sym shut.is) (known-shut _ shut.more shut.spares (_, refl)) in
    omega (arith, allowed-length (known_of log) image reads, ap (λ (k : List Known). length k) known.1)

module _ {M : Type 0} (stand : StepsStand M) where
  -- a log that gained the steps of a history, whose ranges lie behind its end
  pub history-shut : (place end : ℕ) (history : List (Entry M)) (lists : List Part) (torn : List ℕ) (log steps : List Step)
      (image : List ℕ) → StaysShut log → Reads log image → place ≡ length image → IsLegal place history
      → IsLogOf place end history lists torn steps → StaysShut (log ++ steps)
  history-shut place end history lists torn log steps image shut reads at legal is =
      shut-append log steps shut
      (tail-spares place place [] steps (omega (arith, shut-some log image shut reads, at)) is.tail
      (subst (λ (l : List Step). AllByRecursion (IsBehind place) l) (sym is.ranges) (stand place history legal)))
