-- What a disk's log tells of a history with one entry more.
use Rattle.std.proofs.Common.{◌≡◌, ◌∙◌, ap, sym, refl, ℕ, zero, suc, ◌+◌, ◌≤◌, List, [], ◌∷◌, ◌++◌, length, drop, Option, Some, None}
use Rattle.std.proofs.Common.{arith, append_assoc, append-nil}
use Rattle.std.specs.Prelude.{slice_get}
use Rattle.std.proofs.lemmas.List.{length-append, length-map, drop-append-le}
use Rattle.std.proofs.lemmas.List.Elements.{filter-append}
use Rattle.std.proofs.Math.Seq.{drop-append_seam}
use Rattle.nt_outside.specs.Log.{Step}
use Rattle.nt_outside.specs.Held.{Held, BecomesSome}
use Rattle.nt_machine.specs.declared.entry.Entry.{Entry}
use Rattle.nt_machine.specs.declared.entry.EntryKind.{EntryKind}
use Rattle.nt_machine.specs.declared.entry.EntryKind.TheVariants as entry
use Rattle.nt_machine.specs.History.{Cluster, after_entry}
use Rattle.nt_machine.specs.Legal.{IsKindAllowed, IsLegalAfter, IsLegal, IsOut}
use Rattle.nt_machine.specs.Told.{settle_at, disk_steps_of, log_after, log_of}
use Rattle.nt_machine.specs.Untold.{settles, settled_count, with_first, with_bytes, without_first}
use Rattle.nt_machine.proofs.Untelling.{with_bytes-settled, with_bytes-other}
use Rattle.nt_logged.specs.Tails.{is_of_range, range_steps}
use Rattle.nt_logged.specs.Steps.{logged_step, first_bytes, steps_of_history, step_count, told_first, told_bytes, told_history}

length_rest : {A : Type 0} (n m : ℕ) (xs : List A) → length xs ≡ n + m → length (drop n xs) ≡ m
length_rest zero m xs is = omega (arith, is)
length_rest (suc n) m [] is = absurd (omega (arith, is))
length_rest (suc n) m (x ∷ xs) is = length_rest n m xs (omega (arith, is))

behind : (front log steps : List Step) → log ≡ front ++ steps → drop (length front) log ≡ steps
behind front log steps is = ap (λ (l : List Step). drop (length front) l) is ∙ drop-append_seam front steps

-- a log gained steps, so many of them of ranges
pub record GainsSo (count : ℕ) (h h' : Held) : Type 0 where
  pub steps : List Step
  pub log : h'.log ≡ h.log ++ steps
  pub counted : length (range_steps steps) ≡ count

module _ {M : Type 0} where
  -- how many steps a history is
  abbrev pub steps_count : List (Entry M) → ℕ
  steps_count [] = 0
  steps_count (e ∷ es) = step_count e.kind + steps_count es

  length-told_first : (k : EntryKind M) (steps : List Step) → length (told_first k steps) ≡ settles k
  length-told_first (entry.Committed n start len meta) steps = refl
  length-told_first (entry.Reserved n start len meta) steps = refl
  length-told_first (entry.Published ns) steps = refl
  length-told_first (entry.Settled n bytes) steps = refl
  length-told_first (entry.Spoiled n faults) steps = refl
  length-told_first (entry.Faulted faults) steps = refl

  length-told_bytes : (es : List (Entry M)) (steps : List Step) → length (told_bytes es steps) ≡ settled_count es
  length-told_bytes [] steps = refl
  length-told_bytes (e ∷ es) steps =
      let rest = told_bytes es (drop (step_count e.kind) steps) in
      omega (
        arith,
        length-append (told_first e.kind steps) rest,
        length-told_first e.kind steps,
        length-told_bytes es (drop (step_count e.kind) steps),
      )

  told_first-append : (k : EntryKind M) (steps new : List Step) → step_count k ≤ length steps → told_first k (steps ++ new)
      ≡ told_first k steps
  told_first-append (entry.Committed n start len meta) steps new le = refl
  told_first-append (entry.Reserved n start len meta) steps new le = refl
  told_first-append (entry.Published ns) steps new le = refl
  told_first-append (entry.Settled n bytes) [] new le = absurd (omega (arith, le))
  told_first-append (entry.Settled n bytes) (step ∷ steps) new le = refl
  told_first-append (entry.Spoiled n faults) steps new le = refl
  told_first-append (entry.Faulted faults) steps new le = refl

  told_bytes-snoc : (es : List (Entry M)) (e : Entry M) (steps new : List Step) → length steps ≡ steps_count es
      → told_bytes (es ++ e ∷ []) (steps ++ new) ≡ told_bytes es steps ++ told_first e.kind new
  told_bytes-snoc [] e [] new long = append-nil (told_first e.kind new)
  told_bytes-snoc [] e (step ∷ steps) new long = absurd (omega (arith, long))
  told_bytes-snoc (d ∷ ds) e steps new long =
      let k = step_count d.kind in
      let le : k ≤ length steps = omega (arith, long) in
      ap (λ (l : List (Option (List ℕ))). l ++ told_bytes (ds ++ e ∷ []) (drop k (steps ++ new))) (told_first-append d.kind steps new le)
      ∙ (ap (λ (l : List Step). told_first d.kind steps ++ told_bytes (ds ++ e ∷ []) l) (drop-append-le k steps new le)
      ∙ (ap (λ (l : List (Option (List ℕ))). told_first d.kind steps ++ l)
      (told_bytes-snoc ds e (drop k steps) new (length_rest k (steps_count ds) steps long))
      ∙ sym (append_assoc (told_first d.kind steps) (told_bytes ds (drop k steps)) (told_first e.kind new))))

  -- an entry with what its steps tell
  abbrev pub told_entry : Option Held → Entry M → List Step → Entry M
  told_entry None e steps = e
  told_entry (Some h) e steps = record { context = e.context; kind = with_first e.kind (told_first e.kind steps) }

  with_bytes-snoc : (es : List (Entry M)) (i : ℕ) (k : EntryKind M) (told : List (Option (List ℕ))) (steps : List Step)
      → length told ≡ settled_count es
      → with_bytes (es ++ record { context = i; kind = k } ∷ []) (told ++ told_first k steps) ≡ with_bytes es told
      ++ record { context = i; kind = with_first k (told_first k steps) } ∷ []
  with_bytes-snoc es i (entry.Committed n start len meta) told steps long =
      let e : Entry M = record { context = i; kind = entry.Committed n start len meta } in
      ap (λ (l : List (Option (List ℕ))). with_bytes (es ++ e ∷ []) l) (append-nil told) ∙ with_bytes-other es e told refl
  with_bytes-snoc es i (entry.Reserved n start len meta) told steps long =
      let e : Entry M = record { context = i; kind = entry.Reserved n start len meta } in
      ap (λ (l : List (Option (List ℕ))). with_bytes (es ++ e ∷ []) l) (append-nil told) ∙ with_bytes-other es e told refl
  with_bytes-snoc es i (entry.Published ns) told steps long =
      let e : Entry M = record { context = i; kind = entry.Published ns } in
      ap (λ (l : List (Option (List ℕ))). with_bytes (es ++ e ∷ []) l) (append-nil told) ∙ with_bytes-other es e told refl
  with_bytes-snoc es i (entry.Settled n bytes) told steps long = with_bytes-settled es told i n bytes (first_bytes steps) long
  with_bytes-snoc es i (entry.Spoiled n faults) told steps long =
      let e : Entry M = record { context = i; kind = entry.Spoiled n faults } in
      ap (λ (l : List (Option (List ℕ))). with_bytes (es ++ e ∷ []) l) (append-nil told) ∙ with_bytes-other es e told refl
  with_bytes-snoc es i (entry.Faulted faults) told steps long =
      let e : Entry M = record { context = i; kind = entry.Faulted faults } in
      ap (λ (l : List (Option (List ℕ))). with_bytes (es ++ e ∷ []) l) (append-nil told) ∙ with_bytes-other es e told refl

  told_more : (h now next : Held) (history : List (Entry M)) (e : Entry M) (steps : List Step)
      → GainsSo (steps_count history) h now → next.log ≡ now.log ++ steps
      → told_history (Some h) (Some next) (history ++ e ∷ [])
      ≡ told_history (Some h) (Some now) history ++ told_entry (Some h) e (range_steps steps) ∷ []
  told_more h now next history e steps was log =
      let before = range_steps was.steps in
      let new = range_steps steps in
      let one : range_steps (drop (length h.log) now.log) ≡ before =
      ap (λ (l : List Step). range_steps l) (behind h.log now.log was.steps was.log) in
      let two : range_steps (drop (length h.log) next.log) ≡ before ++ new =
      ap (λ (l : List Step). range_steps l)
      (behind h.log next.log (was.steps ++ steps)
      (log ∙ (ap (λ (l : List Step). l ++ steps) was.log ∙ append_assoc h.log was.steps steps)))
      ∙ filter-append is_of_range was.steps steps in
      ap (λ (l : List Step). with_bytes (history ++ e ∷ []) (told_bytes (history ++ e ∷ []) l)) two
      ∙ (ap (λ (l : List (Option (List ℕ))). with_bytes (history ++ e ∷ []) l) (told_bytes-snoc history e before new was.counted)
      ∙ (with_bytes-snoc history e.context e.kind (told_bytes history before) new (length-told_bytes history before)
      ∙ ap (λ (l : List Step). with_bytes history (told_bytes history l) ++ told_entry (Some h) e new ∷ []) (sym one)))

  -- one entry more, and its steps
  pub told_history-snoc : (begun now next : Option Held) (history : List (Entry M)) (e : Entry M) (steps : List Step)
      → BecomesSome begun now (GainsSo (steps_count history))
      → BecomesSome now next (λ h h'. h'.log ≡ h.log ++ steps)
      → told_history begun next (history ++ e ∷ []) ≡ told_history begun now history ++ told_entry begun e (range_steps steps) ∷ []
  told_history-snoc None now next history e steps was log = refl
  told_history-snoc (Some h) now next history e steps was log =
      let first = was h refl in
      let second = log first.0 first.1 in
      ap (λ (o : Option Held). told_history (Some h) o (history ++ e ∷ [])) second.1
      ∙ (told_more h first.0 second.0 history e steps first.2 second.2
      ∙ ap (λ (o : Option Held). told_history (Some h) o history ++ told_entry (Some h) e (range_steps steps) ∷ []) (sym first.1))

  told_beside : (h now next : Held) (history : List (Entry M)) (steps : List Step) (was : GainsSo (steps_count history) h now)
      → next.log ≡ now.log ++ steps → range_steps steps ≡ []
      → told_history (Some h) (Some next) history ≡ told_history (Some h) (Some now) history
  told_beside h now next history steps was log none =
      let one : range_steps (drop (length h.log) now.log) ≡ range_steps was.steps =
      ap (λ (l : List Step). range_steps l) (behind h.log now.log was.steps was.log) in
      let two : range_steps (drop (length h.log) next.log) ≡ range_steps was.steps =
      ap (λ (l : List Step). range_steps l)
      (behind h.log next.log (was.steps ++ steps)
      (log ∙ (ap (λ (l : List Step). l ++ steps) was.log ∙ append_assoc h.log was.steps steps)))
      ∙ (filter-append is_of_range was.steps steps
      ∙ (ap (λ (l : List Step). range_steps was.steps ++ l) none ∙ append-nil (range_steps was.steps))) in
      ap (λ (l : List Step). with_bytes history (told_bytes history l)) (two ∙ sym one)

  -- no entry more, and steps that are of no range
  pub told_history-same : (begun now next : Option Held) (history : List (Entry M)) (steps : List Step)
      → BecomesSome begun now (GainsSo (steps_count history))
      → BecomesSome now next (λ h h'. h'.log ≡ h.log ++ steps) → range_steps steps ≡ []
      → told_history begun next history ≡ told_history begun now history
  told_history-same None now next history steps was log none = refl
  told_history-same (Some h) now next history steps was log none =
      let first = was h refl in
      let second = log first.0 first.1 in
      ap (λ (o : Option Held). told_history (Some h) o history) second.1
      ∙ (told_beside h first.0 second.0 history steps first.2 second.2 none
      ∙ ap (λ (o : Option Held). told_history (Some h) o history) (sym first.1))

  length-settle_at : (ranges : List (Cluster M)) (i n : ℕ) (bytes : Option (List ℕ)) → IsOut ranges i n
      → length (settle_at (slice_get ranges n) bytes) ≡ 1
  length-settle_at ranges i n bytes is = ap (λ (o : Option (Cluster M)). length (settle_at o bytes)) is.at

  length-disk_steps_of : (place : ℕ) (ranges : List (Cluster M)) (i : ℕ) (k : EntryKind M) → IsKindAllowed place ranges i k
      → length (disk_steps_of ranges k) ≡ step_count k
  length-disk_steps_of place ranges i (entry.Committed n start len meta) ok = refl
  length-disk_steps_of place ranges i (entry.Reserved n start len meta) ok = refl
  length-disk_steps_of place ranges i (entry.Published ns) ok = refl
  length-disk_steps_of place ranges i (entry.Settled n bytes) ok = length-settle_at ranges i n bytes ok.0
  length-disk_steps_of place ranges i (entry.Spoiled n faults) ok = length-settle_at ranges i n None ok
  length-disk_steps_of place ranges i (entry.Faulted faults) ok = refl

  length-log_after : (place : ℕ) (ranges : List (Cluster M)) (es : List (Entry M)) → IsLegalAfter place ranges es
      → length (log_after ranges es) ≡ steps_count es
  length-log_after place ranges [] ok = refl
  length-log_after place ranges (e ∷ es) ok =
      let rest = log_after (after_entry ranges e) es in
      omega (
        arith,
        length-append (disk_steps_of ranges e.kind) rest,
        length-disk_steps_of place ranges e.context e.kind ok.0,
        length-log_after place (after_entry ranges e) es ok.1,
      )

  step_count-told : (k : EntryKind M) (told : List (Option (List ℕ))) → step_count (with_first k told) ≡ step_count k
  step_count-told (entry.Committed n start len meta) told = refl
  step_count-told (entry.Reserved n start len meta) told = refl
  step_count-told (entry.Published ns) told = refl
  step_count-told (entry.Settled n bytes) [] = refl
  step_count-told (entry.Settled n bytes) (first ∷ rest) = refl
  step_count-told (entry.Spoiled n faults) told = refl
  step_count-told (entry.Faulted faults) told = refl

  steps_count-with_bytes : (es : List (Entry M)) (told : List (Option (List ℕ))) → steps_count (with_bytes es told) ≡ steps_count es
  steps_count-with_bytes [] told = refl
  steps_count-with_bytes (e ∷ es) told =
      omega (arith, step_count-told e.kind told, steps_count-with_bytes es (without_first (settles e.kind) told))

  steps_count-told : (begun now : Option Held) (history : List (Entry M)) → steps_count (told_history begun now history)
      ≡ steps_count history
  steps_count-told None now history = refl
  steps_count-told (Some h) None history = refl
  steps_count-told (Some h) (Some h') history = steps_count-with_bytes history
      (told_bytes history (range_steps (drop (length h.log) h'.log)))

  -- a told history is as many steps as its entries ask for
  pub steps_are_counted : (place : ℕ) (begun now : Option Held) (history : List (Entry M)) → IsLegal place (told_history begun now history)
      → length (steps_of_history (told_history begun now history)) ≡ steps_count history
  steps_are_counted place begun now history ok =
      length-map (log_of (told_history begun now history)) logged_step
      ∙ (length-log_after place [] (told_history begun now history) ok ∙ steps_count-told begun now history)
