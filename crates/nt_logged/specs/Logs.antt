-- The log of a disk on which a history was made, with page lists appended between its steps.
use Rattle.std.specs.Prelude.{◌≡◌, ℕ, List, [], ◌∷◌, ◌++◌, Option, Some, None, Contains}
use Rattle.nt_outside.specs.Log.{Step, Write, FailedWrite, Append, FailedAppend, Reserve, Settle, Sync}
use Rattle.nt_machine.specs.declared.entry.Entry.{Entry}
use Rattle.nt_machine.specs.History.{Cluster, Settled, ranges_of}
use Rattle.nt_machine.specs.Legal.{spans_of}
use Rattle.nt_logged.specs.Steps.{steps_of_history}
use Rattle.nt_lists.specs.Parts.{Part}
use Rattle.nt_logged.specs.Tails.{range_steps, end_after_step, end_after_steps, with_all_reserved, IsTail}

-- what a step appends to a file that ends there
abbrev pub appended_by : ℕ → Step → List Part
appended_by end (Write at bytes) = []
appended_by end (FailedWrite at bytes) = []
appended_by end (Append bytes) = record { place = end; bytes = bytes } ∷ []
appended_by end (FailedAppend len) = []
appended_by end (Reserve start len) = []
appended_by end (Settle start len bytes) = []
appended_by end Sync = []

-- and what these steps do
abbrev pub appends_in : ℕ → List Step → List Part
appends_in end [] = []
appends_in end (step ∷ steps) = appended_by end step ++ appends_in (end_after_step end step) steps

-- how many unknown bytes appends left that failed
abbrev pub torn_by : Step → List ℕ
torn_by (Write at bytes) = []
torn_by (FailedWrite at bytes) = []
torn_by (Append bytes) = []
torn_by (FailedAppend len) = len ∷ []
torn_by (Reserve start len) = []
torn_by (Settle start len bytes) = []
torn_by Sync = []

-- and of these steps
abbrev pub torn_in : List Step → List ℕ
torn_in [] = []
torn_in (step ∷ steps) = torn_by step ++ torn_in steps

-- the part that is told of a range which is handed back
abbrev pub told_part : ℕ → Option (List ℕ) → List Part
told_part start None = []
told_part start (Some bytes) = record { place = start; bytes = bytes } ∷ []

-- the bytes with which a step hands a range back, and their place
abbrev pub settled_by : Step → List Part
settled_by (Write at bytes) = []
settled_by (FailedWrite at bytes) = []
settled_by (Append bytes) = []
settled_by (FailedAppend len) = []
settled_by (Reserve start len) = []
settled_by (Settle start len bytes) = told_part start bytes
settled_by Sync = []

-- and those of these steps
abbrev pub settles_in : List Step → List Part
settles_in [] = []
settles_in (step ∷ steps) = settled_by step ++ settles_in steps

-- a log since a place has the steps of a history, one Reserve for each range at the end of its time; the page lists, each where it was
-- appended; and the appends that failed
pub record IsLogOf {M : Type 0} (place end : ℕ) (history : List (Entry M)) (lists : List Part) (torn : List ℕ)
    (steps : List Step) : Type 0 where
  pub ranges : range_steps steps ≡ steps_of_history history
  pub tail : IsTail place [] steps
  pub reserved : with_all_reserved [] steps ≡ spans_of (ranges_of history)
  pub ends : end_after_steps place steps ≡ end
  pub lists_are : appends_in place steps ≡ lists
  pub torn_is : torn_in steps ≡ torn

-- a part of the file that was written: a page list that was appended, or a range that is settled with its bytes
pub data WasWritten {M : Type 0} (lists : List Part) (ranges : List (Cluster M)) (p : Part) : Type 0 where
  is_list : Contains lists p → WasWritten lists ranges p
  is_range : (c : Cluster M) → Contains ranges c → c.start ≡ p.place → c.state ≡ Settled (Some p.bytes) → WasWritten lists ranges p
