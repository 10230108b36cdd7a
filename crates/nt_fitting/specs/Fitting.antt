-- Columns whose trees fit: numbers are of their width, and tags count alternatives.
use Rattle.std.specs.Prelude.{ℕ, ◌≡◌, ◌<◌, ◌≤◌, ◌^◌, Some, List, slice_get, ⊤}
use Rattle.nt_types.specs.declared.column_type.ColumnType.{ColumnType}
use Rattle.nt_types.specs.ColumnTable.{code_of}
use Rattle.nt_column.specs.Elements.{AreElementsOf}
use Rattle.nt_grammar.specs.declared.rows.ColumnRow.{ColumnRow}
use Rattle.nt_plans.specs.Plan.{PlanData, PlansData, bool, number, text, list, maybe, record_of, choice, no_plans, plan}
use Rattle.nt_trees.specs.Columns.{Cols, number_at, tag_at}
use Rattle.nt_trees.specs.Sound.{how_many_plans}

-- the columns of one plan
abbrev mutual
  pub CanFit : PlanData → Cols → Type 0
  CanFit (bool k) cols = ⊤
  CanFit (number k bits signed) cols = (0 < bits) × ((i : ℕ) → number_at (cols k) i < 2 ^ bits)
  CanFit (text e c) cols = ⊤
  CanFit (list e p) cols = CanFit p cols
  CanFit (maybe e p) cols = CanFit p cols
  CanFit (record_of ps) cols = AllCanFit ps cols
  CanFit (choice s ps) cols = ((i : ℕ) → tag_at (cols s) i ≤ how_many_plans ps) × AllCanFit ps cols

  -- the columns of several plans
  pub AllCanFit : PlansData → Cols → Type 0
  AllCanFit no_plans cols = ⊤
  AllCanFit (plan p ps) cols = CanFit p cols × AllCanFit ps cols

-- the elements of each column are of the type that its row has
abbrev pub AreOfRows : List ColumnRow → Cols → Type 0
AreOfRows cs cols = (k : ℕ) (row : ColumnRow) (kind : ColumnType) → slice_get cs k ≡ Some row → row.code ≡ code_of kind
    → AreElementsOf kind (cols k)
