-- The contexts of a history, where from a number on there are only faults.
use Rattle.std.proofs.Common.{◌≡◌, ℕ, ◌<◌, ◌≤◌, ◌==◌, Bool, true, false, cond, List, [], ◌∷◌, map, refl, sym, subst, inl, inr}
use Rattle.std.specs.List.{AllByRecursion, fold}
use Rattle.std.proofs.lemmas.Bool.{eq-eqb, false≢true, cases_lt}
use Rattle.nt_machine.specs.declared.entry.Entry.{Entry}
use Rattle.nt_machine.specs.declared.entry.EntryKind.{EntryKind}
use Rattle.nt_machine.specs.declared.entry.EntryKind.TheVariants as entry
use Rattle.nt_machine.specs.History.{Fate, Settled, Spoiled, Cluster, mine_of, handed_back, after_kind, after_entry, IsFaulted, IsIdle}
use Rattle.nt_machine.proofs.Histories.{AllByRecursion-append, AllByRecursion-map, context-handed_back}

below-here : (count i : ℕ) → (count ≤ i → ⊥) → i < count
below-here count i only = elim (cases_lt i count) [ inl low ↦ low | inr high ↦ absurd (only high) ]

module _ {M : Type 0} where
  -- from this number of contexts on there are only faults
  abbrev pub HasContexts : ℕ → List (Entry M) → Type 0
  HasContexts count history = AllByRecursion (λ (e : Entry M). count ≤ e.context → IsFaulted e.kind) history

  pub contexts_idle : (count : ℕ) (history : List (Entry M)) → ((i : ℕ) → count ≤ i → IsIdle (mine_of history i))
      → HasContexts count history
  contexts_idle count [] idle = tt
  contexts_idle count (e ∷ es) idle = (
    λ high. first (e.context == e.context) (eq-eqb e.context e.context refl)
        (idle e.context high),
    contexts_idle count es (λ i high. rest (e.context == i) i (idle i high)),
  )
    where
      first : (b : Bool) → b ≡ true → IsIdle (cond b (e ∷ mine_of es e.context) (mine_of es e.context)) → IsFaulted e.kind
      first true is h = h.0
      first false is h = absurd (false≢true is)

      rest : (b : Bool) (i : ℕ) → IsIdle (cond b (e ∷ mine_of es i) (mine_of es i)) → IsIdle (mine_of es i)
      rest true i h = h.1
      rest false i h = h

  abbrev pub IsBelow : ℕ → Cluster M → Type 0
  IsBelow count c = c.context < count

  below-map : (count i n : ℕ) (state : Fate) (cs : List (Cluster M)) → AllByRecursion (IsBelow count) cs
      → AllByRecursion (IsBelow count) (map (handed_back i n state) cs)
  below-map count i n state cs below =
      AllByRecursion-map (IsBelow count) (IsBelow count) (handed_back i n state)
      (λ c h. subst (λ (j : ℕ). j < count) (sym (context-handed_back i n state c)) h) cs below

  below-after_entry : (count : ℕ) (cs : List (Cluster M)) (i : ℕ) (k : EntryKind M) → (count ≤ i → IsFaulted k)
      → AllByRecursion (IsBelow count) cs → AllByRecursion (IsBelow count) (after_kind cs i k)
  below-after_entry count cs i (entry.Committed n start len meta) only below =
      AllByRecursion-append (IsBelow count) cs _ below (below-here count i only, tt)
  below-after_entry count cs i (entry.Reserved n start len meta) only below =
      AllByRecursion-append (IsBelow count) cs _ below (below-here count i only, tt)
  below-after_entry count cs i (entry.Published ns) only below = below
  below-after_entry count cs i (entry.Settled n bytes) only below = below-map count i n (Settled bytes) cs below
  below-after_entry count cs i (entry.Spoiled n faults) only below = below-map count i n (Spoiled faults) cs below
  below-after_entry count cs i (entry.Faulted faults) only below = below

  -- each range is one of a context
  pub below-fold : (count : ℕ) (cs : List (Cluster M)) (history : List (Entry M)) → HasContexts count history
      → AllByRecursion (IsBelow count) cs → AllByRecursion (IsBelow count) (fold after_entry cs history)
  below-fold count cs [] only below = below
  below-fold count cs (e ∷ es) only below = below-fold count (after_entry cs e) es only.1
      (below-after_entry count cs e.context e.kind only.0 below)
