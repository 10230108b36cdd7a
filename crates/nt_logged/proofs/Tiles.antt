-- A log whose ranges are all settled, with nothing between them, is known byte by byte.
use Rattle.std.proofs.Common.{◌≡◌, ◌∙◌, ap, sym, refl, subst, ℕ, zero, suc, ◌+◌, ◌≤◌, List, [], ◌∷◌}
use Rattle.std.proofs.Common.{◌++◌, length, map, take, drop, Option, Some, None, append_assoc, arith}
use Rattle.std.specs.List.{AllByRecursion, AllZip, fold, flat_map}
use Rattle.std.proofs.Math.ListN.{set}
use Rattle.std.proofs.lemmas.List.{map-append, length-map, take-append-drop, drop-drop}
use Rattle.std.proofs.lemmas.List.Sums.{sum_by-cons}
use Rattle.nt_outside.specs.Log.{Step, Write, FailedWrite, Append, FailedAppend, Reserve, Settle, Sync}
use Rattle.nt_outside.specs.Reads.{Known, exactly, known_of, IsKnown}
use Rattle.nt_machine.specs.declared.entry.Entry.{Entry}
use Rattle.nt_machine.specs.declared.entry.EntryKind.{EntryKind}
use Rattle.nt_machine.specs.declared.entry.EntryKind.TheVariants as entry
use Rattle.nt_machine.specs.History.{Cluster, Fate, Settled, Spoiled, handed_back, after_kind, after_entry, ranges_of}
use Rattle.nt_machine.specs.Legal.{AreAsLong, spans_of, ranges_end, end_after, IsOut, IsKindAllowed, IsLegalAfter, IsLegal}
use Rattle.nt_machine.specs.Spans.{Span, IsDisjoint}
use Rattle.nt_machine.specs.Told.{settle_at, disk_steps_of, log_after}
use Rattle.nt_machine.proofs.Histories.{AllByRecursion-append}
use Rattle.nt_machine.proofs.Legality.{IsApart-fold, IsNumbered, IsNumbered-after_entry, map-handed_back}
use Rattle.nt_logged.specs.Stands.{StandOnceSettled}
use Rattle.nt_logged.specs.Steps.{logged_step, steps_of_history}
use Rattle.nt_logged.specs.Tails.{range_steps, with_all_reserved, IsTail}
use Rattle.nt_lists.specs.Parts.{Part}
use Rattle.nt_logged.specs.Logs.{told_part, settled_by, settles_in, IsLogOf}
use Rattle.nt_logged.proofs.Standing.{all_stand}
use Rattle.nt_logged.proofs.Reading.{TellsAt, front_told, settled_told, length-steps, known-append}
use Rattle.nt_logged.proofs.Sparing.{AreInside, inside-steps}
use Rattle.nt_logged.proofs.Written.{settles-range}

-- each part is told
abbrev pub AreTold : List Known → List Part → Type 0
AreTold known ps = AllByRecursion (λ (p : Part). TellsAt known p.place p.bytes) ps

pub moved : (before : List Step) (s : Step) (steps : List Step) → before ++ s ∷ steps ≡ (before ++ s ∷ []) ++ steps
moved before s steps = sym (append_assoc before (s ∷ []) steps)

module _ (log : List Step) where
  -- what is known behind these steps
  abbrev behind : List Step → List Known
  behind steps = known_of (log ++ steps)

  one_told : (before steps : List Step) (start len : ℕ) (bytes : Option (List ℕ))
      → IsTail (length (known_of log)) [] (before ++ Settle start len bytes ∷ steps)
      → StandOnceSettled (range_steps (before ++ Settle start len bytes ∷ steps))
      → AreTold (behind (before ++ Settle start len bytes ∷ steps)) (told_part start bytes)
  one_told before steps start len None is once = tt
  one_told before steps start len (Some bytes) is once = (settled_told log before steps start len bytes is once, tt)

  one_settled : (before : List Step) (s : Step) (steps : List Step) → IsTail (length (known_of log)) [] (before ++ s ∷ steps)
      → StandOnceSettled (range_steps (before ++ s ∷ steps)) → AreTold (behind (before ++ s ∷ steps)) (settled_by s)
  one_settled before (Write at bytes) steps is once = tt
  one_settled before (FailedWrite at bytes) steps is once = tt
  one_settled before (Append bytes) steps is once = tt
  one_settled before (FailedAppend len) steps is once = tt
  one_settled before (Reserve start len) steps is once = tt
  one_settled before (Settle start len bytes) steps is once = one_told before steps start len bytes is once
  one_settled before Sync steps is once = tt

  pub all_settled : (before steps : List Step) → IsTail (length (known_of log)) [] (before ++ steps)
      → StandOnceSettled (range_steps (before ++ steps)) → AreTold (behind (before ++ steps)) (settles_in steps)
  all_settled before [] is once = tt
  all_settled before (s ∷ steps) is once =
      let here = one_settled before s steps is once in
      let rest = all_settled (before ++ s ∷ []) steps
      (subst (λ (l : List Step). IsTail (length (known_of log)) [] l) (moved before s steps) is)
      (subst (λ (l : List Step). StandOnceSettled (range_steps l)) (moved before s steps) once) in
      AllByRecursion-append (λ (p : Part). TellsAt (behind (before ++ s ∷ steps)) p.place p.bytes) (settled_by s) (settles_in steps) here
      (subst (λ (l : List Step). AreTold (behind l) (settles_in steps)) (sym (moved before s steps)) rest)

settles-append : (one two : List Step) → settles_in (one ++ two) ≡ settles_in one ++ settles_in two
settles-append [] two = refl
settles-append (s ∷ one) two =
    ap (λ (l : List Part). settled_by s ++ l) (settles-append one two) ∙ sym (append_assoc (settled_by s) (settles_in one) (settles_in two))

parts-split : (known : List Known) (a b : List Part) → AreTold known (a ++ b) → AreTold known a × AreTold known b
parts-split known [] b h = (tt, h)
parts-split known (p ∷ a) b h = let rest = parts-split known a b h.1 in ((h.0, rest.0), rest.1)

pub drop-all : (n : ℕ) (xs : List Known) → length xs ≡ n → drop n xs ≡ []
drop-all zero [] is = refl
drop-all zero (x ∷ xs) is = absurd (omega (arith, is))
drop-all (suc n) [] is = absurd (omega (arith, is))
drop-all (suc n) (x ∷ xs) is = drop-all n xs (omega (arith, is))

-- ---- the states of ranges

module _ {M : Type 0} (known : List Known) where
  -- a range that is settled with its bytes is told
  abbrev pub IsTold : Cluster M → Type 0
  IsTold c = (bytes : List ℕ) → c.state ≡ Settled (Some bytes) → TellsAt known c.start bytes × (length bytes ≡ c.len)

  told-set : (cs : List (Cluster M)) (n : ℕ) (c : Cluster M) → AllByRecursion IsTold cs → IsTold c → AllByRecursion IsTold (set cs n c)
  told-set [] n c h is = h
  told-set (d ∷ cs) zero c h is = (is, h.1)
  told-set (d ∷ cs) (suc n) c h is = (h.0, told-set cs n c h.1 is)

  told-back : (cs : List (Cluster M)) (i n : ℕ) (state : Fate) → IsNumbered 0 cs → (is : IsOut cs i n)
      → IsTold (record is.cluster { state = state }) → AllByRecursion IsTold cs → AllByRecursion IsTold (map (handed_back i n state) cs)
  told-back cs i n state numbered is here h =
      subst (λ (l : List (Cluster M)). AllByRecursion IsTold l)
      (sym (map-handed_back 0 i state cs n n is.cluster numbered (omega arith) is.at is.own is.out))
      (told-set cs n (record is.cluster { state = state }) h here)

  settled-told : (c : Cluster M) (bytes : Option (List ℕ)) → AreAsLong bytes c.len → AreTold known (told_part c.start bytes)
      → IsTold (record c { state = Settled bytes })
  settled-told c None long told = λ bytes is. cc
  settled-told c (Some own) long told = λ bytes is.
      let same : own ≡ bytes = cc in
      (subst (λ (l : List ℕ). TellsAt known c.start l) same told.0, subst (λ (l : List ℕ). length l ≡ c.len) same long)

  told-kind : (place : ℕ) (cs : List (Cluster M)) (i : ℕ) (k : EntryKind M) → IsKindAllowed place cs i k → IsNumbered 0 cs
      → AreTold known (settles_in (map logged_step (disk_steps_of cs k))) → AllByRecursion IsTold cs
      → AllByRecursion IsTold (after_kind cs i k)
  told-kind place cs i (entry.Committed n start len meta) ok numbered told h =
      AllByRecursion-append IsTold cs _ h ((λ bytes is. cc), tt)
  told-kind place cs i (entry.Reserved n start len meta) ok numbered told h =
      AllByRecursion-append IsTold cs _ h ((λ bytes is. cc), tt)
  told-kind place cs i (entry.Published ns) ok numbered told h = h
  told-kind place cs i (entry.Settled n bytes) ok numbered told h =
      let c = ok.0.cluster in
      let parts = subst (λ (o : Option (Cluster M)). AreTold known (settles_in (map logged_step (settle_at o bytes)))) ok.0.at told in
      told-back cs i n (Settled bytes) numbered ok.0 (settled-told c bytes ok.1 (first c.start bytes parts)) h
    where
      first : (start : ℕ) (bytes : Option (List ℕ)) → AreTold known (told_part start bytes ++ []) → AreTold known (told_part start bytes)
      first start None told = tt
      first start (Some bytes) told = told
  told-kind place cs i (entry.Spoiled n faults) ok numbered told h =
      told-back cs i n (Spoiled faults) numbered ok (λ bytes is. cc) h
  told-kind place cs i (entry.Faulted faults) ok numbered told h = h

  pub told-all : (place : ℕ) (cs : List (Cluster M)) (es : List (Entry M)) → IsLegalAfter place cs es → IsNumbered 0 cs
      → AreTold known (settles_in (map logged_step (log_after cs es))) → AllByRecursion IsTold cs
      → AllByRecursion IsTold (fold after_entry cs es)
  told-all place cs [] ok numbered told h = h
  told-all place cs (e ∷ es) ok numbered told h =
      let one = disk_steps_of cs e.kind in
      let more = log_after (after_entry cs e) es in
      let parted : settles_in (map logged_step (one ++ more))
      ≡ settles_in (map logged_step one) ++ settles_in (map logged_step more) =
      ap (λ (l : List Step). settles_in l) (map-append logged_step one more)
      ∙ settles-append (map logged_step one) (map logged_step more) in
      let parts = parts-split known (settles_in (map logged_step one)) (settles_in (map logged_step more))
      (subst (λ (l : List Part). AreTold known l) parted told) in
      told-all place (after_entry cs e) es ok.1 (IsNumbered-after_entry place cs e.context e.kind ok.0 numbered) parts.1
      (told-kind place cs e.context e.kind ok.0 numbered parts.0 h)

  last-within : (from end : ℕ) (cs : List (Cluster M)) → from ≤ end → AreInside end (spans_of cs) → ranges_end from cs ≤ end
  last-within from end [] le h = le
  last-within from end (c ∷ cs) le h = last-within (c.start + c.len) end cs h.0 h.1

  -- ranges that leave no gap, each told
  low : (from end : ℕ) (cs : List (Cluster M)) → IsDisjoint from (spans_of cs) end → end_after from cs ≤ end
  low from end [] h = omega (arith, h)
  low from end (c ∷ cs) h =
      let rest = low (c.start + c.len) end cs h.1 in
      let first = h.0 in
      omega (arith, rest, first, sum_by-cons (λ (d : Cluster M). d.len) c cs)

  tiled : (from end : ℕ) (cs : List (Cluster M)) (parts : List (List ℕ)) → IsDisjoint from (spans_of cs) end → end ≡ end_after from cs
      → length known ≡ end → AllByRecursion IsTold cs → AllZip (λ part (c : Cluster M). c.state ≡ Settled (Some part)) parts cs
      → drop from known ≡ map exactly (flat_map (λ (part : List ℕ). part) parts)
  tiled from end [] [] apart is long told settled = drop-all from known (long ∙ (is ∙ omega arith))
  tiled from end (c ∷ cs) [] apart is long told settled = absurd settled
  tiled from end [] (p ∷ ps) apart is long told settled = absurd settled
  tiled from end (c ∷ cs) (p ∷ ps) apart is long told settled =
      let sums = sum_by-cons (λ (d : Cluster M). d.len) c cs in
      let first = apart.0 in
      let below = low (c.start + c.len) end cs apart.1 in
      let start : c.start ≡ from = omega (arith, is, sums, first, below) in
      let here = told.0 p settled.0 in
      let next : from + length p ≡ c.start + c.len = omega (arith, start, here.1) in
      let rest = tiled (c.start + c.len) end cs ps apart.1 (omega (arith, is, sums, start)) long told.1 settled.1 in
      let one : take (length p) (drop from known) ≡ map exactly p =
      ap (λ (n : ℕ). take (length p) (drop n known)) (sym start) ∙ here.0.are in
      sym (take-append-drop (length p) (drop from known))
      ∙ (ap (λ (l : List Known). l ++ drop (length p) (drop from known)) one
      ∙ (ap (λ (l : List Known). map exactly p ++ l)
      (drop-drop (length p) from known ∙ (ap (λ (n : ℕ). drop n known) next ∙ rest))
      ∙ sym (map-append exactly p (flat_map (λ (part : List ℕ). part) ps))))

module _ {M : Type 0} (log steps : List Step) (front : List ℕ) (history : List (Entry M)) (parts : List (List ℕ)) where
  pub settled_known : IsKnown log front → IsLegal (length front) history
      → IsLogOf (length front) (end_after (length front) (ranges_of history)) history [] [] steps
      → AllZip (λ part (c : Cluster M). c.state ≡ Settled (Some part)) parts (ranges_of history)
      → IsKnown (log ++ steps) (front ++ flat_map (λ part. part) parts)
  settled_known is ok logged settled =
      let place = length front in
      let known = known_of (log ++ steps) in
      let cs = ranges_of history in
      let long : length (known_of log) ≡ place = ap (λ (l : List Known). length l) is ∙ length-map front exactly in
      let tail = subst (λ (n : ℕ). IsTail n [] steps) (sym long) logged.tail in
      let all = all_settled log [] steps tail
      (subst (λ (l : List Step). StandOnceSettled l) (sym logged.ranges) (all_stand place history ok)) in
      let told : AreTold known (settles_in (steps_of_history history)) =
      subst (λ (ps : List Part). AreTold known ps) (sym (settles-range steps) ∙ ap (λ (l : List Step). settles_in l) logged.ranges) all in
      let states = told-all known place [] history ok tt told tt in
      let whole : length known ≡ end_after place cs =
      ap (λ (l : List Known). length l) (known-append [] log steps)
      ∙ (length-steps place [] (known_of log) steps tt logged.tail long ∙ logged.ends) in
      let apart : IsDisjoint place (spans_of cs) (ranges_end place cs) = IsApart-fold place [] history ok (omega arith) in
      let inside : AreInside (end_after place cs) (spans_of cs) =
      subst (λ (l : List Span). AreInside (end_after place cs) l) logged.reserved
      (subst (λ (e : ℕ). AreInside e (with_all_reserved [] steps)) logged.ends (inside-steps place [] steps logged.tail tt)) in
      let first = (front_told log steps front is logged.tail).are in
      let rest = tiled known place (end_after place cs) cs parts (later place (spans_of cs) (ranges_end place cs) (end_after place cs) apart
      (last-within known place (end_after place cs) cs (omega arith) inside)) refl whole states settled in
      sym (take-append-drop place known)
      ∙ (ap (λ (l : List Known). l ++ drop place known) first
      ∙ (ap (λ (l : List Known). map exactly front ++ l) rest ∙ sym (map-append exactly front (flat_map (λ part. part) parts))))
    where
      later : (from : ℕ) (spans : List Span) (end more : ℕ) → IsDisjoint from spans end → end ≤ more → IsDisjoint from spans more
      later from [] end more h le = omega (arith, h, le)
      later from (s ∷ spans) end more h le = (h.0, later (s.start + s.len) spans end more h.1 le)
