-- Where an element can be read: the columns are sound for more elements than come before it.
use Rattle.std.specs.Prelude.{ℕ, ◌<◌, ◌≤◌}
use Rattle.nt_plans.specs.Plan.{PlanData, PlansData}
use Rattle.nt_trees.specs.Columns.{Cols}
use Rattle.nt_trees.specs.Sound.{Sound, AllSound}

-- of a field
pub record Readable (p : PlanData) (cols : Cols) (i : ℕ) : Type 0 where
  pub size : ℕ
  pub sound : Sound p cols size
  pub within : i < size

-- of a field, each element before this one
pub record ReadableTo (p : PlanData) (cols : Cols) (to : ℕ) : Type 0 where
  pub size : ℕ
  pub sound : Sound p cols size
  pub within : to ≤ size

-- of each of these fields
pub record ReadableEach (ps : PlansData) (cols : Cols) (i : ℕ) : Type 0 where
  pub size : ℕ
  pub sound : AllSound ps cols size
  pub within : i < size
