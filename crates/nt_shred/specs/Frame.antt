-- What stays of a set of columns while it is filled: the type of each column, and that its elements are stored; and the room in it.
use Rattle.std.specs.Prelude.{ℕ, zero, suc, ◌≡◌, ◌≢◌, ◌+◌, ◌<◌, ◌≤◌, ◌^◌, ◌||◌, List, [], ◌∷◌, map, length, Bool, true, false, Some}
use Rattle.std.specs.Prelude.{slice_get, if◌then◌else◌}
use Rattle.nt_types.specs.declared.column_type.ColumnType.{ColumnType}
use Rattle.nt_types.specs.declared.column_type.ColumnType.TheVariants.{Index32, SplitIndex32, Switch}
use Rattle.nt_types.specs.ColumnTable.{bits_of}
use Rattle.nt_types.specs.Spelling.{is_width}
use Rattle.nt_column.specs.Column.{Buffer}
use Rattle.nt_plans.specs.Plan.{PlanData, PlansData, bool, number, text, list, maybe, record_of, choice, no_plans, plan}
use Rattle.nt_plans.specs.Types.{is_index_type, are_some}
use Rattle.nt_trees.specs.Columns.{Cols}
use Rattle.nt_trees.specs.Views.{cols_of}

-- the type of each column, and the count of zeros that it is kept as
abbrev pub Frame : Type 0
Frame = List (ColumnType × ℕ)

abbrev pub set_frame : List Buffer → Frame
set_frame bs = map (λ (b : Buffer). (b.column.kind, b.column.zeros)) bs

-- a column of numbers of this width, which are stored
abbrev pub IsPlain : Frame → ℕ → ℕ → Type 0
IsPlain fr k bits = (c : ColumnType) × (slice_get fr k ≡ Some (c, 0)) × (c ≢ Switch) × (bits_of c ≡ bits)

-- a column of ends
abbrev pub IsEnds : Frame → ℕ → Type 0
IsEnds fr k = (c : ColumnType) × (slice_get fr k ≡ Some (c, 0)) × (is_index_type c ≡ true)

-- a Switch
abbrev pub IsTags : Frame → ℕ → Type 0
IsTags fr k = slice_get fr k ≡ Some (Switch, 0)

-- the columns of a plan have the types of their values, and are stored
abbrev mutual
  pub Takes : PlanData → Frame → Type 0
  Takes (bool k) fr = IsPlain fr k 1
  Takes (number k bits signed) fr = IsPlain fr k bits × (is_width bits ≡ true)
  Takes (text e c) fr = IsEnds fr e × IsPlain fr c 8
  Takes (list e p) fr = IsEnds fr e × Takes p fr
  Takes (maybe e p) fr = IsEnds fr e × Takes p fr
  Takes (record_of ps) fr = (are_some ps ≡ true) × AllTake ps fr
  Takes (choice s ps) fr = IsTags fr s × AllTake ps fr

  -- those of all of these plans
  pub AllTake : PlansData → Frame → Type 0
  AllTake no_plans fr = Unit {0}
  AllTake (plan p ps) fr = Takes p fr × AllTake ps fr

-- a column of ends that have 32 bits
abbrev pub is_narrow : ColumnType → Bool
is_narrow Index32 = true
is_narrow SplitIndex32 = true
is_narrow _ = false

-- one of the columns is such
abbrev pub has_narrow : Frame → Bool
has_narrow [] = false
has_narrow (c ∷ fr) = is_narrow c.0 || has_narrow fr

-- all ends of the columns can count to below this
abbrev pub ends_below : Frame → ℕ
ends_below fr = if has_narrow fr then 2 ^ 32 else 2 ^ 64

-- how many elements a column can have until it needs more memory
abbrev pub capacity_at : List Buffer → ℕ → ℕ
capacity_at [] k = 0
capacity_at (b ∷ bs) zero = length b.column.elements + b.spare
capacity_at (b ∷ bs) (suc k) = capacity_at bs k

-- the set has room for these columns, and its ends can count them
pub record FitsIn (bs : List Buffer) (cols : Cols) : Type 0 where
  pub memory : (k : ℕ) → k < length bs → length (cols k) ≤ capacity_at bs k
  pub ends : (k : ℕ) → k < length bs → length (cols k) < ends_below (set_frame bs)

-- there is room for so many more elements in each column
pub record HasRoomFor (bs : List Buffer) (more : ℕ) : Type 0 where
  pub memory : (k : ℕ) → k < length bs → length (cols_of bs k) + more ≤ capacity_at bs k
  pub ends : (k : ℕ) → k < length bs → length (cols_of bs k) + more < ends_below (set_frame bs)

-- there is room for so many more elements in one column
pub record HasRoomIn (bs : List Buffer) (k more : ℕ) : Type 0 where
  pub memory : length (cols_of bs k) + more ≤ capacity_at bs k
  pub ends : length (cols_of bs k) + more < ends_below (set_frame bs)
