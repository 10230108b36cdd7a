-- The rule of the queue: the jobs that were taken and those that wait are those that were put, each once.
use Rattle.std.specs.Prelude.{◌≡◌, ℕ, ◌+◌, ◌<◌, ◌≤◌, List, [], ◌∷◌, ◌++◌, length, map}
use Rattle.std.specs.List.{AllByRecursion}
use mathlib.Core.Option.{some}
use lib.ListN.{get_elem?}
use Rattle.std.specs.Mem.{manually_drop_value}
use Rattle.std.specs.declared.mem.ManuallyDrop.{ManuallyDrop}
use Rattle.nt_pool.specs.declared.rule.Hand.{Hand}

-- the parts of the right to know the whole: one for each of 64 workers, and one more
abbrev pub all_parts : ℕ
all_parts = 65

module _ {J : Type 0} where
  abbrev pub hand : ℕ → List J → List J → Hand J
  hand parts put taken = record { parts = parts; put = put; taken = taken }

  -- the weights of jobs, added up
  abbrev pub weigh : (J → ℕ) → List J → ℕ
  weigh f [] = 0
  weigh f (j ∷ js) = f j + weigh f js

  -- a number of each pass, added up
  abbrev pub total : (Hand J → ℕ) → List (Hand J) → ℕ
  total f [] = 0
  total f (v ∷ vs) = f v + total f vs

  -- the jobs in the queue
  abbrev pub waiting : List (ManuallyDrop J) → List J
  waiting items = map manually_drop_value items

  -- the job is one of these
  abbrev pub IsOf : List J → J → Type 0
  IsOf all j = (i : ℕ) × (get_elem? all i ≡ some j)

  -- a pass with a part knows the jobs that were put, and took of these; one with no part took none
  pub record FitsHand (all : List J) (v : Hand J) : Type 0 where
    pub idle : v.parts ≡ 0 → v.taken ≡ []
    pub put : 0 < v.parts → v.put ≡ all
    pub taken : AllByRecursion (IsOf all) v.taken

  -- however jobs are weighed, those that were taken and those that wait weigh what those weigh that were put
  abbrev pub Balanced : List J → List J → List (Hand J) → Type 0
  Balanced all items views = (f : J → ℕ) → total (λ v. weigh f v.taken) views + weigh f items ≡ weigh f all

  module _ (ready : J → Type 0) where
    -- a job that waits is one of those that were put, and can be run
    abbrev pub Waits : List J → J → Type 0
    Waits all j = IsOf all j × ready j

    abbrev pub AreSharedOut : List (ManuallyDrop J) → List (Hand J) → Type 0
    AreSharedOut items views =
        (all : List J) × (total (λ v. v.parts) views ≡ all_parts) × Balanced all (waiting items) views
        × AllByRecursion (Waits all) (waiting items)
        × ((port : ℕ) (v : Hand J) → get_elem? views port ≡ some v → FitsHand all v)

    -- a job was taken that can be run, and no more jobs than there are
    pub record TakesOne (v : Hand J) (x : ManuallyDrop J) (w : Hand J) : Type 0 where
      pub now : w ≡ hand v.parts v.put (v.taken ++ manually_drop_value x ∷ [])
      pub can : ready (manually_drop_value x)
      pub few : length w.taken ≤ length v.put

  abbrev pub PutsOne : Hand J → ManuallyDrop J → Hand J → Type 0
  PutsOne v x w = w ≡ hand v.parts (v.put ++ manually_drop_value x ∷ []) v.taken

  -- no more was taken than was put; and with all parts in one hand, what was taken and what waits is what was put
  abbrev pub LearnsAll : Hand J → List (ManuallyDrop J) → Type 0
  LearnsAll v items =
      (0 < v.parts → length v.taken ≤ length v.put)
      × (v.parts ≡ all_parts → ((f : J → ℕ) → weigh f v.taken + weigh f (waiting items) ≡ weigh f v.put)
      × AllByRecursion (IsOf v.put) v.taken)
