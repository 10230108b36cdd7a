-- A log of page lists and settled ranges that leave no gap is known byte by byte.
use Rattle.std.proofs.Common.{◌≡◌, ◌∙◌, ap, sym, subst, ℕ, ◌+◌, List, [], ◌∷◌}
use Rattle.std.proofs.Common.{◌++◌, length, map, take, drop, arith}
use Rattle.std.specs.List.{AllByRecursion, concat}
use Rattle.std.proofs.lemmas.List.{map-append, length-map, take-append-drop, drop-drop}
use Rattle.nt_lists.specs.Parts.{Part, AreBehind, joined_len, part_bytes}
use Rattle.nt_outside.specs.Log.{Step, Write, FailedWrite, Append, FailedAppend, Reserve, Settle, Sync}
use Rattle.nt_outside.specs.Reads.{Known, exactly, known_of, IsKnown}
use Rattle.nt_machine.specs.declared.entry.Entry.{Entry}
use Rattle.nt_machine.specs.History.{Cluster, ranges_of}
use Rattle.nt_machine.specs.Legal.{IsLegal}
use Rattle.nt_machine.proofs.Histories.{AllByRecursion-append}
use Rattle.nt_logged.specs.Stands.{StandOnceSettled}
use Rattle.nt_logged.specs.Steps.{steps_of_history}
use Rattle.nt_logged.specs.Tails.{end_after_step, end_after_steps, IsTail}
use Rattle.nt_logged.specs.Logs.{appended_by, appends_in, settles_in, IsLogOf, WasWritten, is_list, is_range}
use Rattle.nt_logged.proofs.Growing.{ends-snoc}
use Rattle.nt_logged.proofs.Reading.{TellsAt, appended_told, front_told, length-steps, known-append}
use Rattle.nt_logged.proofs.Sparing.{all_among}
use Rattle.nt_logged.proofs.Standing.{all_stand}
use Rattle.nt_logged.proofs.Tiles.{AreTold, IsTold, all_settled, drop-all, moved, told-all}
use Rattle.nt_logged.proofs.Written.{settles-range}

module _ (log : List Step) where
  one_listed : (before : List Step) (s : Step) (steps : List Step) → IsTail (length (known_of log)) [] (before ++ s ∷ steps)
      → AreTold (known_of (log ++ (before ++ s ∷ steps))) (appended_by (end_after_steps (length (known_of log)) before) s)
  one_listed before (Write at bytes) steps is = tt
  one_listed before (FailedWrite at bytes) steps is = tt
  one_listed before (Append bytes) steps is = (appended_told log before steps bytes is, tt)
  one_listed before (FailedAppend len) steps is = tt
  one_listed before (Reserve start len) steps is = tt
  one_listed before (Settle start len bytes) steps is = tt
  one_listed before Sync steps is = tt

  all_listed : (before steps : List Step) → IsTail (length (known_of log)) [] (before ++ steps)
      → AreTold (known_of (log ++ (before ++ steps))) (appends_in (end_after_steps (length (known_of log)) before) steps)
  all_listed before [] is = tt
  all_listed before (s ∷ steps) is =
      let place = length (known_of log) in
      let end = end_after_steps place before in
      let rest = all_listed (before ++ s ∷ []) steps (subst (λ (l : List Step). IsTail place [] l) (moved before s steps) is) in
      AllByRecursion-append (λ (p : Part). TellsAt (known_of (log ++ (before ++ s ∷ steps))) p.place p.bytes) (appended_by end s)
      (appends_in (end_after_step end s) steps) (one_listed before s steps is)
      (subst (λ (l : List Step). AreTold (known_of (log ++ l)) (appends_in (end_after_step end s) steps)) (sym (moved before s steps))
      (subst (λ (e : ℕ). AreTold (known_of (log ++ ((before ++ s ∷ []) ++ steps))) (appends_in e steps)) (ends-snoc place before s) rest))

-- parts that leave no gap, each told
parted : (known : List Known) (place : ℕ) (ps : List Part) → AreBehind place ps → AreTold known ps → length known ≡ place + joined_len ps
    → drop place known ≡ map exactly (concat (part_bytes ps))
parted known place [] behind told long = drop-all place known (omega (arith, long))
parted known place (p ∷ ps) behind told long =
    let n = length p.bytes in
    let rest = parted known (place + n) ps behind.1 told.1 (omega (arith, long)) in
    let one : take n (drop place known) ≡ map exactly p.bytes =
    ap (λ (i : ℕ). take n (drop i known)) (sym behind.0) ∙ told.0.are in
    sym (take-append-drop n (drop place known))
    ∙ (ap (λ (l : List Known). l ++ drop n (drop place known)) one
    ∙ (ap (λ (l : List Known). map exactly p.bytes ++ l) (drop-drop n place known ∙ rest)
    ∙ sym (map-append exactly p.bytes (concat (part_bytes ps)))))

module _ {M : Type 0} (known : List Known) (lists : List Part) (cs : List (Cluster M)) (listed : AreTold known lists)
    (settled : AllByRecursion (IsTold known) cs) where
  told_part-of : (p : Part) → WasWritten lists cs p → TellsAt known p.place p.bytes
  told_part-of p (is_list among) = all_among (λ (q : Part). TellsAt known q.place q.bytes) lists p listed among
  told_part-of p (is_range c among start state) =
      let told = all_among (IsTold {M = M} known) cs c settled among in
      subst (λ (n : ℕ). TellsAt known n p.bytes) start (told p.bytes state).0

  parts_told : (ps : List Part) → AllByRecursion (WasWritten lists cs) ps → AreTold known ps
  parts_told [] h = tt
  parts_told (p ∷ ps) h = (told_part-of p h.0, parts_told ps h.1)

module _ {M : Type 0} (log steps : List Step) (front : List ℕ) (end : ℕ) (history : List (Entry M)) (lists : List Part) (torn : List ℕ)
    (parts : List Part) where
  pub parts_known : IsKnown log front → IsLegal (length front) history
      → IsLogOf (length front) end history lists torn steps
      → AreBehind (length front) parts → length front + joined_len parts ≡ end
      → AllByRecursion (WasWritten lists (ranges_of history)) parts
      → IsKnown (log ++ steps) (front ++ concat (part_bytes parts))
  parts_known is ok logged behind all written =
      let place = length front in
      let known = known_of (log ++ steps) in
      let long : length (known_of log) ≡ place = ap (λ (l : List Known). length l) is ∙ length-map front exactly in
      let tail = subst (λ (n : ℕ). IsTail n [] steps) (sym long) logged.tail in
      let settles = all_settled log [] steps tail
      (subst (λ (l : List Step). StandOnceSettled l) (sym logged.ranges) (all_stand place history ok)) in
      let told : AreTold known (settles_in (steps_of_history history)) =
      subst (λ (ps : List Part). AreTold known ps)
      (sym (settles-range steps) ∙ ap (λ (l : List Step). settles_in l) logged.ranges) settles in
      let states = told-all known place [] history ok tt told tt in
      let lists_told : AreTold known lists =
      subst (λ (ps : List Part). AreTold known ps)
      (ap (λ (n : ℕ). appends_in n steps) long ∙ logged.lists_are) (all_listed log [] steps tail) in
      let whole : length known ≡ place + joined_len parts =
      ap (λ (l : List Known). length l) (known-append [] log steps)
      ∙ (length-steps place [] (known_of log) steps tt logged.tail long ∙ (logged.ends ∙ sym all)) in
      let first = (front_told log steps front is logged.tail).are in
      let rest = parted known place parts behind (parts_told known lists (ranges_of history) lists_told states parts written) whole in
      sym (take-append-drop place known)
      ∙ (ap (λ (l : List Known). l ++ drop place known) first
      ∙ (ap (λ (l : List Known). map exactly front ++ l) rest ∙ sym (map-append exactly front (concat (part_bytes parts)))))
