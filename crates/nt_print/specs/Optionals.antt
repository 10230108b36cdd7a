-- Lists of optional integers, by where the first begins and by their ends.
use Rattle.std.specs.Prelude.{ℕ, zero, suc, ◌≡◌, ◌+◌, ◌-◌, ◌≤◌, Bool, List, [], ◌∷◌, map, ⊤}
use Rattle.std.specs.List.{slice_range}
use Rattle.nt_types.specs.TreeData.{TreeData, TreesData, no_trees, tree}
use Rattle.nt_column.specs.Elements.{plain}
use Rattle.nt_plans.specs.Plan.{PlanData, maybe, number}
use Rattle.nt_trees.specs.Columns.{Cols, begin_at}
use Rattle.nt_trees.specs.TreeAt.{trees_from, only}

-- the tree of each optional: the one that begins where the one before it ends, if this ends behind there
abbrev pub optional_trees : (ℕ → TreeData) → ℕ → List ℕ → TreesData
optional_trees f begin [] = no_trees
optional_trees f begin (end ∷ ends) = tree (only (trees_from f begin (end - begin))) (optional_trees f end ends)

-- each end is the one before it, or the next number
abbrev pub StepsOn : ℕ → List ℕ → Type 0
StepsOn begin [] = ⊤
StepsOn begin (end ∷ ends) = (begin ≤ end) × (end ≤ begin + 1) × StepsOn end ends

-- each of the first so many ends is the next number
abbrev pub CountsOn : ℕ → ℕ → List ℕ → Type 0
CountsOn begin zero ends = ⊤
CountsOn begin (suc n) [] = ⊥
CountsOn begin (suc n) (end ∷ ends) = (end ≡ begin + 1) × CountsOn end n ends

-- the last end, or where the first begins
abbrev pub last_behind : ℕ → List ℕ → ℕ
last_behind begin [] = begin
last_behind begin (end ∷ ends) = last_behind end ends

-- these are the optionals of a plan from one place to before another: where the first begins, their ends as they lie, and the column,
-- width and sign of their integers
pub record AreOptionals (p : PlanData) (cols : Cols) (from to begin : ℕ) (ends : List ℕ) (column bits : ℕ) (signed : Bool) : Type 0 where
  pub ends_column : ℕ
  pub plan : p ≡ maybe ends_column (number column bits signed)
  pub begins : begin ≡ begin_at (cols ends_column) from
  pub lent : map plain ends ≡ slice_range (cols ends_column) from to
