-- The steps of the machine that the entries of a history stand for.
use Rattle.std.specs.Prelude.{◌≡◌, ℕ, ◌<◌, ◌⊎◌, false, List, [], ◌∷◌, length, Some, slice_get}
use Rattle.std.specs.List.{AllZip}
use Rattle.nt_machine.specs.declared.entry.Entry.{Entry}
use Rattle.nt_machine.specs.declared.entry.EntryKind.{EntryKind}
use Rattle.nt_machine.specs.declared.entry.EntryKind.TheVariants as entry
use Rattle.nt_machine.specs.History.{Fate, Cluster}
use Rattle.nt_machine.specs.History as history
use Rattle.nt_machine.specs.Legal.{ranges_end}
use Rattle.nt_machine.specs.Machine.{Mark, Out, Settled, Spoiled, ChunkRange, MachineState, ContextStep, Reserve, Write, WriteFail, Settle}
use Rattle.nt_machine.specs.Machine.{Publish, mark_of, chunk_count}

-- how the machine marks what became of a range
abbrev pub mark_of_fate : Fate → Mark
mark_of_fate history.Out = Out
mark_of_fate (history.Settled bytes) = Settled
mark_of_fate (history.Spoiled faults) = Spoiled

-- what becomes of range n if it is handed back now
abbrev pub IsHandedBackAs : MachineState → ℕ → Mark → Type 0
IsHandedBackAs s n mark = (r : ChunkRange) → slice_get s.ranges n ≡ Some r → mark_of r.content ≡ mark

-- context i writes into range n, and may fail
abbrev pub IsWriteInto : ℕ → ℕ → ContextStep → Type 0
IsWriteInto i n step = (step ≡ Write i n) ⊎ (step ≡ WriteFail i n)

module _ {M : Type 0} where
  -- a commit reserves a range, as staging does; a range is handed back once it was written or its write failed; faults are no step
  abbrev pub steps_of_kind : ℕ → EntryKind M → List ContextStep
  steps_of_kind i (entry.Committed n start len meta) = Reserve i start ∷ []
  steps_of_kind i (entry.Reserved n start len meta) = Reserve i start ∷ []
  steps_of_kind i (entry.Published ns) = Publish i ∷ []
  steps_of_kind i (entry.Settled n bytes) = Settle i n ∷ []
  steps_of_kind i (entry.Spoiled n faults) = Settle i n ∷ []
  steps_of_kind i (entry.Faulted faults) = []

  -- the steps that an entry stands for
  abbrev pub steps_of_entry : Entry M → List ContextStep
  steps_of_entry e = steps_of_kind e.context e.kind

  -- a range of the machine is that of a cluster; what was written into it while it is out no history tells
  pub record IsRangeOf (r : ChunkRange) (c : Cluster M) : Type 0 where
    pub context : r.context ≡ c.context
    pub start : r.start ≡ c.start
    pub len : r.len ≡ c.len
    pub mark : r.mark ≡ mark_of_fate c.state

  -- the machine has the ranges that a history left, one by one, of a file that ended at `place`
  pub record HasRanges (place : ℕ) (s : MachineState) (cs : List (Cluster M)) : Type 0 where
    pub end : s.end ≡ ranges_end place cs
    pub running : s.closed ≡ false
    pub ranges : AllZip IsRangeOf s.ranges cs

  -- who commits or reserves has neither ended nor published, and takes the blob of the next chunk, if one is left; who publishes hasn't
  -- either; who settles has written, who spoils failed to
  abbrev pub IsNextOf : {C : Type 0} → List (List C) → (ℕ → ℕ → ℕ → List ℕ) → MachineState → ℕ → EntryKind M → Type 0
  IsNextOf chunks blob s i (entry.Committed n start len meta) =
      ((s.contexts i).ended ≡ false) × ((s.contexts i).published ≡ false) × ((s.contexts i).reserved < chunk_count false chunks i)
      × (length (blob i (s.contexts i).reserved start) ≡ len)
  IsNextOf chunks blob s i (entry.Reserved n start len meta) =
      ((s.contexts i).ended ≡ false) × ((s.contexts i).published ≡ false) × ((s.contexts i).reserved < chunk_count false chunks i)
      × (length (blob i (s.contexts i).reserved start) ≡ len)
  IsNextOf chunks blob s i (entry.Published ns) = ((s.contexts i).ended ≡ false) × ((s.contexts i).published ≡ false)
  IsNextOf chunks blob s i (entry.Settled n bytes) = IsHandedBackAs s n Settled
  IsNextOf chunks blob s i (entry.Spoiled n faults) = IsHandedBackAs s n Spoiled
  IsNextOf chunks blob s i (entry.Faulted faults) = Unit {0}
