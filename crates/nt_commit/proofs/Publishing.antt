-- Who published, and the ranges that a context publishes: of its own entries, and with bytes as without.
use Rattle.std.proofs.Common.{◌≡◌, ◌∙◌, ap, sym, refl, subst, ℕ, ◌+◌, ◌==◌, Bool, true, false, cond, List, [], ◌∷◌, length, map, drop}
use Rattle.std.proofs.Common.{Option, Some, None, arith}
use Rattle.std.specs.List.{AllByRecursion}
use Rattle.nt_outside.specs.Held.{Held}
use Rattle.nt_machine.specs.Deal.{times}
use Rattle.nt_machine.specs.declared.entry.Entry.{Entry}
use Rattle.nt_machine.specs.declared.entry.EntryKind.{EntryKind}
use Rattle.nt_machine.specs.declared.entry.EntryKind.TheVariants as entry
use Rattle.nt_machine.specs.History.{Cluster, Fate, Out, Settled, Spoiled, mine_of, numbers_of, own_of, publisher, publishers_of, ranges_of}
use Rattle.nt_machine.specs.Legal.{IsFilledFate, IsFilledRange}
use Rattle.nt_machine.specs.Untold.{untold, untold_fate}
use Rattle.nt_machine.proofs.Histories.{own-fold}
use Rattle.nt_machine.proofs.Publishers.{same_publishers}
use Rattle.nt_machine.proofs.Times.{times-append}
use Rattle.nt_machine.proofs.Untelling.{same}
use Rattle.nt_logged.specs.Steps.{told_bytes, told_history}
use Rattle.nt_logged.specs.Tails.{range_steps}

filled-to : (s : Fate) → IsFilledFate s → IsFilledFate (untold_fate s)
filled-to Out filled = filled
filled-to (Settled bytes) filled = tt
filled-to (Spoiled faults) filled = filled

filled-from : (s : Fate) → IsFilledFate (untold_fate s) → IsFilledFate s
filled-from Out filled = filled
filled-from (Settled bytes) filled = tt
filled-from (Spoiled faults) filled = filled

module _ {M : Type 0} where
  -- a context publishes in its own entries
  others-none : (j i : ℕ) (k : EntryKind M) → j == i ≡ false → times i (publisher j k) ≡ 0
  others-none j i (entry.Committed n start len meta) differ = refl
  others-none j i (entry.Reserved n start len meta) differ = refl
  others-none j i (entry.Published ns) differ = ap (λ (b : Bool). length (cond b (j ∷ []) [])) differ
  others-none j i (entry.Settled n bytes) differ = refl
  others-none j i (entry.Spoiled n faults) differ = refl
  others-none j i (entry.Faulted faults) differ = refl

  times-own : (history : List (Entry M)) (i : ℕ) → times i (publishers_of history) ≡ times i (publishers_of (mine_of history i))
  times-own [] i = refl
  times-own (e ∷ es) i =
      times-append i (publisher e.context e.kind) (publishers_of es) ∙ at (e.context == i) refl (times-own es i)
    where
      at : (b : Bool) → e.context == i ≡ b → times i (publishers_of es) ≡ times i (publishers_of (mine_of es i))
          → times i (publisher e.context e.kind) + times i (publishers_of es)
          ≡ times i (publishers_of (cond b (e ∷ mine_of es i) (mine_of es i)))
      at true is rest =
          ap (λ (n : ℕ). times i (publisher e.context e.kind) + n) rest
          ∙ sym (times-append i (publisher e.context e.kind) (publishers_of (mine_of es i)))
      at false differ rest = omega (arith, others-none e.context i e.kind differ, rest)

  -- who hasn't published in its own entries has in none
  pub unpublished : (own all : List (Entry M)) (i : ℕ) → own ≡ mine_of all i → times i (publishers_of own) ≡ 0
      → times i (publishers_of all) ≡ 0
  unpublished own all i is none = times-own all i ∙ (ap (λ (l : List (Entry M)). times i (publishers_of l)) (sym is) ∙ none)

  -- its own ranges are those of all that are its
  pub own-ranges : (own all : List (Entry M)) (i : ℕ) → own ≡ mine_of all i → own_of (ranges_of all) i ≡ ranges_of own
  own-ranges own all i is = own-fold [] all i ∙ ap (λ (l : List (Entry M)). ranges_of l) (sym is)

  own-untold : (cs : List (Cluster M)) (i : ℕ) → map untold (own_of cs i) ≡ own_of (map untold cs) i
  own-untold [] i = refl
  own-untold (c ∷ cs) i = at (c.context == i) (own-untold cs i)
    where
      at : (b : Bool) → map untold (own_of cs i) ≡ own_of (map untold cs) i
          → map untold (cond b (c ∷ own_of cs i) (own_of cs i)) ≡ cond b (untold c ∷ own_of (map untold cs) i) (own_of (map untold cs) i)
      at true rest = ap (λ (l : List (Cluster M)). untold c ∷ l) rest
      at false rest = rest

  numbers-untold : (cs : List (Cluster M)) → numbers_of (map untold cs) ≡ numbers_of cs
  numbers-untold [] = refl
  numbers-untold (c ∷ cs) = ap (λ (l : List ℕ). c.number ∷ l) (numbers-untold cs)

  all-to : (cs : List (Cluster M)) → AllByRecursion IsFilledRange cs → AllByRecursion IsFilledRange (map untold cs)
  all-to [] filled = tt
  all-to (c ∷ cs) filled = (filled-to c.state filled.0, all-to cs filled.1)

  all-from : (cs : List (Cluster M)) → AllByRecursion IsFilledRange (map untold cs) → AllByRecursion IsFilledRange cs
  all-from [] filled = tt
  all-from (c ∷ cs) filled = (filled-from c.state filled.0, all-from cs filled.1)

  own-same : (xs ys : List (Cluster M)) (i : ℕ) → map untold xs ≡ map untold ys → map untold (own_of xs i) ≡ map untold (own_of ys i)
  own-same xs ys i is = own-untold xs i ∙ (ap (λ (l : List (Cluster M)). own_of l i) is ∙ sym (own-untold ys i))

  filled-same : (xs ys : List (Cluster M)) (i : ℕ) → map untold xs ≡ map untold ys → AllByRecursion IsFilledRange (own_of xs i)
      → AllByRecursion IsFilledRange (own_of ys i)
  filled-same xs ys i is filled =
      all-from (own_of ys i) (subst (λ (l : List (Cluster M)). AllByRecursion IsFilledRange l) (own-same xs ys i is)
      (all-to (own_of xs i) filled))

  numbers-same : (xs ys : List (Cluster M)) (i : ℕ) → map untold xs ≡ map untold ys → numbers_of (own_of xs i) ≡ numbers_of (own_of ys i)
  numbers-same xs ys i is =
      sym (numbers-untold (own_of xs i)) ∙ (ap (λ (l : List (Cluster M)). numbers_of l) (own-same xs ys i is)
      ∙ numbers-untold (own_of ys i))

  -- who published is the same of a told history as without the bytes
  pub told_publishers : (begun now : Option Held) (history : List (Entry M))
      → publishers_of (told_history begun now history) ≡ publishers_of history
  told_publishers None now history = refl
  told_publishers (Some h) None history = refl
  told_publishers (Some h) (Some h') history = same_publishers history
      (told_bytes history (range_steps (drop (length h.log) h'.log)))

  -- and so are the ranges of a context but for the bytes
  told_ranges : (begun now : Option Held) (history : List (Entry M))
      → map untold (ranges_of (told_history begun now history)) ≡ map untold (ranges_of history)
  told_ranges None now history = refl
  told_ranges (Some h) None history = refl
  told_ranges (Some h) (Some h') history = same history (told_bytes history (range_steps (drop (length h.log) h'.log)))

  pub told_filled : (begun now : Option Held) (history : List (Entry M)) (i : ℕ)
      → AllByRecursion IsFilledRange (own_of (ranges_of (told_history begun now history)) i)
      → AllByRecursion IsFilledRange (own_of (ranges_of history) i)
  told_filled begun now history i = filled-same (ranges_of (told_history begun now history)) (ranges_of history) i
      (told_ranges begun now history)

  pub told_numbers : (begun now : Option Held) (history : List (Entry M)) (i : ℕ)
      → numbers_of (own_of (ranges_of (told_history begun now history)) i) ≡ numbers_of (own_of (ranges_of history) i)
  told_numbers begun now history i = numbers-same (ranges_of (told_history begun now history)) (ranges_of history) i
      (told_ranges begun now history)
