-- A text that is read by plans, straight to the columns: what is required before, and what is so after.
use Rattle.std.specs.Prelude.{ℕ, ℤ, ◌≡◌, ◌-◌, ◌<◌, ◌^◌, ◌||◌, Bool, true, false, List, Option, Some, None}
use Rattle.serde_json.specs.Written.{compact_text}
use Rattle.nt_types.specs.TreeData.{TreeData, trees_of, num, is_nothing}
use Rattle.nt_types.specs.Fits.{all_trees, is_int}
use Rattle.nt_event.specs.Json.{InRange, AllInRange, InWord, data_of}
use Rattle.nt_event.specs.Standing.{StandsFrom, ValueStands, ItemsStand, json_of, jsons_of}
use Rattle.nt_column.specs.Column.{Buffer}
use Rattle.nt_plans.specs.Plan.{PlanData, PlansData, maybe, choice, Differ, AllDiffer}
use Rattle.nt_trees.specs.Integers.{twos_complement}
use Rattle.nt_trees.specs.Sound.{Sound, AllSound}
use Rattle.nt_trees.specs.Put.{put_each, put_tree, put_trees}
use Rattle.nt_trees.specs.Fits.{fits_plan, fit_plans}
use Rattle.nt_trees.specs.Views.{cols_of}
use Rattle.nt_shred.specs.Frame.{set_frame, Takes, AllTake, HasRoomFor}
use Rattle.nt_shred.specs.Steps.{put_some, GainsInRoom}
use Rattle.nt_shred.specs.Places.{AddsUpTo, Grew}

-- a tree of a plan, whatever it is, can be added from so many bytes
pub record CanPut (p : PlanData) (left : ℕ) (bs : List Buffer) : Type 0 where
  pub size : ℕ
  pub sound : Sound p (cols_of bs) size
  pub differ : Differ p
  pub takes : Takes p (set_frame bs)
  pub room : HasRoomFor bs left

-- a tree of each plan
pub record CanPutEach (ps : PlansData) (left : ℕ) (bs : List Buffer) : Type 0 where
  pub size : ℕ
  pub sound : AllSound ps (cols_of bs) size
  pub differ : AllDiffer ps
  pub takes : AllTake ps (set_frame bs)
  pub room : HasRoomFor bs left

-- from one place to another of a text stands an integer of a width, and this is its element
pub record ElementStands (bits : ℕ) (signed : Bool) (n : ℕ) (text : List ℕ) (at end : ℕ) : Type 0 where
  pub value : ℤ
  pub is : n ≡ twos_complement bits value
  pub below : n < 2 ^ bits
  pub fitting : is_int bits signed value ≡ true
  pub range : InWord value
  pub stands : StandsFrom (compact_text (data_of (num value))) text at end

-- from one place to another of a text stands a tree that the plan takes, and it is added, by no more elements a column than bytes
pub record Puts (p : PlanData) (text : List ℕ) (at end : ℕ) (old new : List Buffer) : Type 0 where
  pub found : TreeData
  pub stands : ValueStands (json_of found) text at end
  pub range : InRange found
  pub fitting : fits_plan p found ≡ true
  pub gains : GainsInRoom (put_tree p found) old new
  pub few : AddsUpTo (end - at) old new

-- behind an opening bracket stand trees of one plan up to the closing one, and they are added
pub record PutsAll (p : PlanData) (text : List ℕ) (at end : ℕ) (old new : List Buffer) : Type 0 where
  pub found : List TreeData
  pub stands : ItemsStand (jsons_of (trees_of found)) text at end
  pub range : AllInRange (trees_of found)
  pub fitting : all_trees (fits_plan p) (trees_of found) ≡ true
  pub gains : GainsInRoom (put_each (put_tree p) (trees_of found)) old new
  pub few : AddsUpTo (end - at) old new

-- whether nothing is among the trees of a plan
abbrev pub takes_null : PlanData → Bool
takes_null (maybe e p) = true
takes_null (choice s ps) = true
takes_null _ = false

-- from one place to another of a text stands a tree that the plan takes, or nothing, and the tree is added
pub record PutsSome (p : PlanData) (text : List ℕ) (at end : ℕ) (old new : List Buffer) : Type 0 where
  pub found : TreeData
  pub stands : ValueStands (json_of found) text at end
  pub range : InRange found
  pub fitting : (is_nothing found || fits_plan p found) ≡ true
  pub gains : GainsInRoom (put_some (put_tree p) found) old new
  pub few : AddsUpTo (end - at) old new

-- a tree of each plan
pub record PutsEach (ps : PlansData) (text : List ℕ) (at end : ℕ) (old new : List Buffer) : Type 0 where
  pub found : List TreeData
  pub stands : ItemsStand (jsons_of (trees_of found)) text at end
  pub range : AllInRange (trees_of found)
  pub fitting : fit_plans ps (trees_of found) ≡ true
  pub gains : GainsInRoom (put_trees ps (trees_of found)) old new
  pub few : AddsUpTo (end - at) old new

-- what is so up to a place that was found; where none was, columns have grown by anything
abbrev pub Leaves : (ℕ → Type 0) → List Buffer → List Buffer → Option ℕ → Type 0
Leaves P old new None = Grew old new
Leaves P old new (Some end) = P end
