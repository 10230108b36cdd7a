-- Which trees are moved.
use Rattle.std.specs.Prelude.{ℕ, List}
use Rattle.nt_types.specs.TreeData.{TreesData}
use Rattle.nt_plans.specs.Plan.{PlansData}
use Rattle.nt_trees.specs.Columns.{Cols}
use Rattle.nt_trees.specs.TreeAt.{each_at}
use Rattle.nt_join.specs.Chosen.{chosen}
use Rattle.nt_join.specs.Readable.{ReadableEach}

-- the trees at these places of an entry of these columns, in this order
abbrev pub chosen_at : PlansData → Cols → List ℕ → ℕ → TreesData
chosen_at ps cols places i = chosen places (each_at ps cols i)

-- the entry can be read, and its trees at these places are what is taken
pub record CanMove (ps : PlansData) (cols : Cols) (places : List ℕ) (i : ℕ) (IsTaken : TreesData → Type 0) : Type 0 where
  pub readable : ReadableEach ps cols i
  pub entry : IsTaken (chosen_at ps cols places i)
