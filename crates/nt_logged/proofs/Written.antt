-- All that was written is read.
use Rattle.std.proofs.Common.{◌≡◌, ◌∙◌, ap, sym, refl, subst, ℕ, List, [], ◌∷◌, ◌++◌, length}
use Rattle.std.proofs.Common.{Option, Some, None, append_assoc}
use Rattle.std.specs.List.{AllByRecursion}
use Rattle.nt_outside.specs.Log.{Step, Write, FailedWrite, Append, FailedAppend, Reserve, Settle, Sync}
use Rattle.nt_outside.specs.Reads.{Known, known_from, known_of, Reads}
use Rattle.nt_outside.proofs.Known.{allowed-length}
use Rattle.nt_machine.specs.declared.entry.Entry.{Entry}
use Rattle.nt_machine.proofs.Histories.{AllByRecursion-append}
use Rattle.nt_logged.specs.Stands.{StandOnceSettled}
use Rattle.nt_logged.specs.Steps.{steps_of_history}
use Rattle.nt_logged.specs.Tails.{range_steps, end_after_step, end_after_steps, IsTail}
use Rattle.nt_lists.specs.Parts.{Part, StandAt}
use Rattle.nt_logged.specs.Logs.{appended_by, appends_in, told_part, settled_by, settles_in, IsLogOf}
use Rattle.nt_logged.proofs.Reading.{appended_read, settled_read, length-steps, known-append}
use Rattle.nt_logged.proofs.Growing.{ends-snoc}

abbrev AreRead : List ℕ → List Part → Type 0
AreRead image ps = AllByRecursion (λ (p : Part). StandAt image p.place p.bytes) ps

moved : (before : List Step) (s : Step) (steps : List Step) → before ++ s ∷ steps ≡ (before ++ s ∷ []) ++ steps
moved before s steps = sym (append_assoc before (s ∷ []) steps)

module _ (log : List Step) (image : List ℕ) where
  one_appended : (before : List Step) (s : Step) (steps : List Step) → IsTail (length (known_of log)) [] (before ++ s ∷ steps)
      → Reads (log ++ (before ++ s ∷ steps)) image → AreRead image (appended_by (end_after_steps (length (known_of log)) before) s)
  one_appended before (Write at bytes) steps is reads = tt
  one_appended before (FailedWrite at bytes) steps is reads = tt
  one_appended before (Append bytes) steps is reads = (appended_read log before steps bytes image is reads, tt)
  one_appended before (FailedAppend len) steps is reads = tt
  one_appended before (Reserve start len) steps is reads = tt
  one_appended before (Settle start len bytes) steps is reads = tt
  one_appended before Sync steps is reads = tt

  all_appended : (before steps : List Step) → IsTail (length (known_of log)) [] (before ++ steps) → Reads (log ++ (before ++ steps)) image
      → AreRead image (appends_in (end_after_steps (length (known_of log)) before) steps)
  all_appended before [] is reads = tt
  all_appended before (s ∷ steps) is reads =
      let place = length (known_of log) in
      let end = end_after_steps place before in
      let rest = all_appended (before ++ s ∷ []) steps (subst (λ (l : List Step). IsTail place [] l) (moved before s steps) is)
      (subst (λ (l : List Step). Reads (log ++ l) image) (moved before s steps) reads) in
      AllByRecursion-append (λ (p : Part). StandAt image p.place p.bytes) (appended_by end s)
      (appends_in (end_after_step end s) steps) (one_appended before s steps is reads)
      (subst (λ (e : ℕ). AreRead image (appends_in e steps)) (ends-snoc place before s) rest)

  one_told : (before steps : List Step) (start len : ℕ) (bytes : Option (List ℕ))
      → IsTail (length (known_of log)) [] (before ++ Settle start len bytes ∷ steps)
      → StandOnceSettled (range_steps (before ++ Settle start len bytes ∷ steps))
      → Reads (log ++ (before ++ Settle start len bytes ∷ steps)) image → AreRead image (told_part start bytes)
  one_told before steps start len None is once reads = tt
  one_told before steps start len (Some bytes) is once reads = (settled_read log before steps start len bytes image is once reads, tt)

  one_settled : (before : List Step) (s : Step) (steps : List Step) → IsTail (length (known_of log)) [] (before ++ s ∷ steps)
      → StandOnceSettled (range_steps (before ++ s ∷ steps)) → Reads (log ++ (before ++ s ∷ steps)) image
      → AreRead image (settled_by s)
  one_settled before (Write at bytes) steps is once reads = tt
  one_settled before (FailedWrite at bytes) steps is once reads = tt
  one_settled before (Append bytes) steps is once reads = tt
  one_settled before (FailedAppend len) steps is once reads = tt
  one_settled before (Reserve start len) steps is once reads = tt
  one_settled before (Settle start len bytes) steps is once reads = one_told before steps start len bytes is once reads
  one_settled before Sync steps is once reads = tt

  all_settled : (before steps : List Step) → IsTail (length (known_of log)) [] (before ++ steps)
      → StandOnceSettled (range_steps (before ++ steps)) → Reads (log ++ (before ++ steps)) image → AreRead image (settles_in steps)
  all_settled before [] is once reads = tt
  all_settled before (s ∷ steps) is once reads =
      AllByRecursion-append (λ (p : Part). StandAt image p.place p.bytes) (settled_by s) (settles_in steps)
      (one_settled before s steps is once reads)
      (all_settled (before ++ s ∷ []) steps (subst (λ (l : List Step). IsTail (length (known_of log)) [] l) (moved before s steps) is)
      (subst (λ (l : List Step). StandOnceSettled (range_steps l)) (moved before s steps) once)
      (subst (λ (l : List Step). Reads (log ++ l) image) (moved before s steps) reads))

-- only steps of ranges settle
pub settles-range : (steps : List Step) → settles_in (range_steps steps) ≡ settles_in steps
settles-range [] = refl
settles-range (Write at bytes ∷ steps) = settles-range steps
settles-range (FailedWrite at bytes ∷ steps) = settles-range steps
settles-range (Append bytes ∷ steps) = settles-range steps
settles-range (FailedAppend len ∷ steps) = settles-range steps
settles-range (Reserve start len ∷ steps) = settles-range steps
settles-range (Settle start len bytes ∷ steps) = ap (λ (l : List Part). told_part start bytes ++ l) (settles-range steps)
settles-range (Sync ∷ steps) = settles-range steps

module _ {M : Type 0} (log : List Step) (end : ℕ) (history : List (Entry M)) (lists : List Part) (torn : List ℕ) (steps : List Step)
    (image : List ℕ) (is : IsLogOf (length (known_of log)) end history lists torn steps) where
  pub lists_read : Reads (log ++ steps) image → AreRead image lists
  lists_read reads = subst (λ (ps : List Part). AreRead image ps) is.lists_are (all_appended log image [] steps is.tail reads)

  pub ranges_read : StandOnceSettled (steps_of_history history) → Reads (log ++ steps) image
      → AreRead image (settles_in (steps_of_history history))
  ranges_read once reads =
      let all = all_settled log image [] steps is.tail (subst (λ (l : List Step). StandOnceSettled l) (sym is.ranges) once) reads in
      subst (λ (ps : List Part). AreRead image ps) (sym (settles-range steps) ∙ ap (λ (l : List Step). settles_in l) is.ranges) all

  pub end_read : Reads (log ++ steps) image → length image ≡ end
  end_read reads =
      let long = length-steps (length (known_of log)) [] (known_of log) steps tt is.tail refl in
      let same : length (known_of (log ++ steps)) ≡ length (known_from (known_of log) steps) =
      ap (λ (l : List Known). length l) (known-append [] log steps) in
      sym (allowed-length (known_of (log ++ steps)) image reads) ∙ (same ∙ (long ∙ is.ends))
