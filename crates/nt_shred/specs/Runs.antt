-- Values that stand one after the other inside a list, and integers among them.
use Rattle.std.specs.Prelude.{ℕ, zero, suc, ℤ, ◌≡◌, ◌+◌, ◌-◌, ◌≤◌, Bool, true, List, [], ◌∷◌, Option, Some, None, length, map, ⊤}
use Rattle.nt_types.specs.TreeData.{TreeData, trees_of, num}
use Rattle.nt_types.specs.Fits.{all_trees, is_int}
use Rattle.nt_event.specs.Json.{AllInRange, InWord}
use Rattle.nt_event.specs.Standing.{ValueStands, CommaStands, json_of}
use Rattle.nt_column.specs.Column.{Buffer, with_more}
use Rattle.nt_column.specs.Elements.{Element, plain}
use Rattle.nt_plans.specs.Plan.{PlanData}
use Rattle.nt_trees.specs.Columns.{add_to}
use Rattle.nt_trees.specs.Integers.{twos_complement}
use Rattle.nt_trees.specs.Put.{put_each, put_tree}
use Rattle.nt_trees.specs.Fits.{fits_plan}
use Rattle.nt_shred.specs.Steps.{GainsInRoom}
use Rattle.nt_shred.specs.Places.{AddsUpTo}

-- from one place to another stand these values, one at least, with commas between them
abbrev pub RunStands : List TreeData → List ℕ → ℕ → ℕ → Type 0
RunStands [] text at end = ⊥
RunStands (v ∷ []) text at end = ValueStands (json_of v) text at end
RunStands (v ∷ w ∷ ws) text at end = (mid : ℕ) × (next : ℕ) × ValueStands (json_of v) text at mid × CommaStands text mid next
    × RunStands (w ∷ ws) text next end

-- such values stand there, the plan takes them, and they are added
pub record PutsRun (p : PlanData) (text : List ℕ) (at end : ℕ) (old new : List Buffer) : Type 0 where
  pub found : List TreeData
  pub stands : RunStands found text at end
  pub range : AllInRange (trees_of found)
  pub fitting : all_trees (fits_plan p) (trees_of found) ≡ true
  pub gains : GainsInRoom (put_each (put_tree p) (trees_of found)) old new
  pub few : AddsUpTo (end - at) old new

-- integers of a width and sign
abbrev pub AllInts : ℕ → Bool → List ℤ → Type 0
AllInts bits signed [] = ⊤
AllInts bits signed (z ∷ zs) = (is_int bits signed z ≡ true) × InWord z × AllInts bits signed zs

-- the elements of integers
abbrev pub integer_elements : ℕ → List ℤ → List Element
integer_elements bits zs = map (λ z. plain (twos_complement bits z)) zs

-- integers stand there, and their elements are added to this column
pub record AddsIntegers (bits : ℕ) (signed : Bool) (text : List ℕ) (at end : ℕ) (old new : Buffer) : Type 0 where
  pub values : List ℤ
  pub stands : RunStands (map (λ z. num z) values) text at end
  pub ints : AllInts bits signed values
  pub column : new.column ≡ with_more old.column (integer_elements bits values)
  pub spare : old.spare ≤ new.spare + length values

-- what is so up to a place that was found; where none was, the column stays
abbrev pub AddsRun : ℕ → Bool → List ℕ → ℕ → Buffer → Buffer → Option ℕ → Type 0
AddsRun bits signed text at old new None = new ≡ old
AddsRun bits signed text at old new (Some end) = AddsIntegers bits signed text at end old new

-- integers stand there, and their elements are added to this column of a set
pub record PutsIntegers (k bits : ℕ) (signed : Bool) (text : List ℕ) (at end : ℕ) (old new : List Buffer) : Type 0 where
  pub values : List ℤ
  pub stands : RunStands (map (λ z. num z) values) text at end
  pub ints : AllInts bits signed values
  pub gains : GainsInRoom (add_to k (integer_elements bits values)) old new

-- so many ends behind this one, each of one more
abbrev pub ends_behind : ℕ → ℕ → List Element
ends_behind end zero = []
ends_behind end (suc n) = plain (suc end) ∷ ends_behind (suc end) n
