-- Which entries come where clusters are staged, and which where they aren't.
use Rattle.std.specs.Prelude.{◌≡◌, ℕ, Bool, true, false, List, [], ◌∷◌, ◌++◌}
use Rattle.nt_machine.specs.Deal.{times}
use Rattle.nt_machine.specs.declared.entry.Entry.{Entry}
use Rattle.nt_machine.specs.declared.entry.EntryKind.{EntryKind}
use Rattle.nt_machine.specs.declared.entry.EntryKind.TheVariants as entry
use Rattle.nt_machine.specs.History.{publisher}

module _ {M : Type 0} where
  -- clusters are committed one by one, or reserved and published
  abbrev pub IsStagedKind : Bool → EntryKind M → Type 0
  IsStagedKind staged (entry.Committed n start len meta) = staged ≡ false
  IsStagedKind staged (entry.Reserved n start len meta) = staged ≡ true
  IsStagedKind staged (entry.Published ns) = staged ≡ true
  IsStagedKind staged (entry.Settled n bytes) = Unit {0}
  IsStagedKind staged (entry.Spoiled n faults) = Unit {0}
  IsStagedKind staged (entry.Faulted faults) = Unit {0}

  -- who reserves a staged range, or publishes, is none of those who published
  abbrev pub IsBeforePublishing : List ℕ → ℕ → EntryKind M → Type 0
  IsBeforePublishing published i (entry.Committed n start len meta) = Unit {0}
  IsBeforePublishing published i (entry.Reserved n start len meta) = times i published ≡ 0
  IsBeforePublishing published i (entry.Published ns) = times i published ≡ 0
  IsBeforePublishing published i (entry.Settled n bytes) = Unit {0}
  IsBeforePublishing published i (entry.Spoiled n faults) = Unit {0}
  IsBeforePublishing published i (entry.Faulted faults) = Unit {0}

  -- this entry may come where these contexts published
  abbrev pub IsStagedNext : Bool → List ℕ → Entry M → Type 0
  IsStagedNext staged published e = IsStagedKind staged e.kind × IsBeforePublishing published e.context e.kind

  -- and so may each of these, one after the other
  abbrev pub IsStagedAfter : Bool → List ℕ → List (Entry M) → Type 0
  IsStagedAfter staged published [] = Unit {0}
  IsStagedAfter staged published (e ∷ es) =
      IsStagedNext staged published e × IsStagedAfter staged (published ++ publisher e.context e.kind) es

  -- a context publishes at most once, and reserves nothing after that; where clusters aren't staged, each range is committed
  abbrev pub KeepsStaging : Bool → List (Entry M) → Type 0
  KeepsStaging staged history = IsStagedAfter staged [] history
