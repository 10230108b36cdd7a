-- The columns of a field in a cluster that was written without it.
use Rattle.std.specs.Prelude.{ℕ, ◌≡◌, true, List, [], replicate, Option, if◌then◌else◌}
use Rattle.nt_column.specs.Elements.{Element, plain}
use Rattle.nt_plans.specs.Plan.{PlanData, has}
use Rattle.nt_plans.specs.Needs.{NeedData, entries, need_in, is_entries}
use Rattle.nt_trees.specs.Columns.{Cols}

-- a column that needs an element for each of so many entries has as many zeros, and any other has none
abbrev pub missing_elements : Option NeedData → ℕ → List Element
missing_elements need n = if is_entries need then replicate n (plain 0) else []

-- the columns of a plan are such
abbrev pub AreMissing : PlanData → Cols → ℕ → Type 0
AreMissing p cols n = (j : ℕ) → has p j ≡ true → cols j ≡ missing_elements (need_in entries p j) n
