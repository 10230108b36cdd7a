-- Trees that are added to columns: what is required before, and what is so after.
use Rattle.std.specs.Prelude.{ℕ, suc, ◌||◌, true, ◌≡◌, ◌≤◌, List, if◌then◌else◌}
use Rattle.nt_types.specs.TreeData.{TreeData, TreesData, is_nothing}
use Rattle.nt_types.specs.TreeBytes.{AllHaveBytes}
use Rattle.nt_types.specs.Fits.{all_trees}
use Rattle.nt_column.specs.Column.{Buffer, columns_of}
use Rattle.nt_grammar.specs.Table.{Table}
use Rattle.nt_plans.specs.Plan.{PlanData, PlansData, Differ, AllDiffer}
use Rattle.nt_plans.specs.Place.{open_plans}
use Rattle.nt_trees.specs.Columns.{Cols}
use Rattle.nt_trees.specs.Described.{IsSetOf}
use Rattle.nt_trees.specs.TreeAt.{each_at}
use Rattle.nt_trees.specs.Sound.{Sound, AllSound}
use Rattle.nt_trees.specs.Put.{put_each, put_tree, put_trees}
use Rattle.nt_trees.specs.Fits.{fits_plan, fit_plans, fits_entry}
use Rattle.nt_trees.specs.Views.{cols_of}
use Rattle.nt_shred.specs.Frame.{set_frame, Takes, AllTake, capacity_at, FitsIn}

-- a tree of a plan can be added
pub record Ready (p : PlanData) (t : TreeData) (bs : List Buffer) : Type 0 where
  pub size : ℕ
  pub sound : Sound p (cols_of bs) size
  pub differ : Differ p
  pub fitting : fits_plan p t ≡ true
  pub takes : Takes p (set_frame bs)
  pub room : FitsIn bs (put_tree p t (cols_of bs))

-- trees of one plan
pub record ReadyAll (p : PlanData) (ts : TreesData) (bs : List Buffer) : Type 0 where
  pub size : ℕ
  pub sound : Sound p (cols_of bs) size
  pub differ : Differ p
  pub fitting : all_trees (fits_plan p) ts ≡ true
  pub takes : Takes p (set_frame bs)
  pub room : FitsIn bs (put_each (put_tree p) ts (cols_of bs))

-- the value of an optional, if there is one
abbrev pub put_some : (TreeData → Cols → Cols) → TreeData → Cols → Cols
put_some f t cols = if is_nothing t then cols else f t cols

-- a tree of a plan or nothing
pub record ReadySome (p : PlanData) (t : TreeData) (bs : List Buffer) : Type 0 where
  pub size : ℕ
  pub sound : Sound p (cols_of bs) size
  pub differ : Differ p
  pub fitting : (is_nothing t || fits_plan p t) ≡ true
  pub takes : Takes p (set_frame bs)
  pub room : FitsIn bs (put_some (put_tree p) t (cols_of bs))

-- a tree of each plan
pub record ReadyEach (ps : PlansData) (ts : TreesData) (bs : List Buffer) : Type 0 where
  pub size : ℕ
  pub sound : AllSound ps (cols_of bs) size
  pub differ : AllDiffer ps
  pub fitting : fit_plans ps ts ≡ true
  pub takes : AllTake ps (set_frame bs)
  pub room : FitsIn bs (put_trees ps ts (cols_of bs))

-- this is added, by memory that was there
pub record GainsInRoom (f : Cols → Cols) (old new : List Buffer) : Type 0 where
  pub columns : cols_of new ≡ f (cols_of old)
  pub frame : set_frame new ≡ set_frame old
  pub room : (k : ℕ) → capacity_at old k ≤ capacity_at new k

-- the trees are of the plans, whose columns are sound
pub record IsEntry (ps : PlansData) (ts : TreesData) (bs : List Buffer) : Type 0 where
  pub size : ℕ
  pub sound : AllSound ps (cols_of bs) size
  pub differ : AllDiffer ps
  pub fitting : fit_plans ps ts ≡ true
  pub takes : AllTake ps (set_frame bs)

-- so many entries are one more, and the last of them is this
pub record IsLast (ps : PlansData) (ts : TreesData) (n : ℕ) (cols : Cols) : Type 0 where
  pub sound : AllSound ps cols (suc n)
  pub entry : AllHaveBytes ts → each_at ps cols n ≡ ts

-- the trees are one for each open field of a schema at the top level and fit it, and the set has its columns, sound for the entries
-- so far
pub record IsEntryOf (t : Table) (ts : TreesData) (bs : List Buffer) : Type 0 where
  pub set : IsSetOf t.columns (columns_of bs)
  pub fitting : fits_entry t ts ≡ true
  pub size : ℕ
  pub sound : AllSound (open_plans t) (cols_of bs) size
