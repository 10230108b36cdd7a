-- A line whose entry is added to the columns.
use Rattle.std.specs.Prelude.{ℕ, ◌≡◌, ◌<◌, true, List, length}
use Rattle.nt_types.specs.TreeData.{TreeData, trees_of}
use Rattle.json.specs.Json.{array}
use Rattle.json.specs.Lex.{tokens}
use Rattle.json.specs.Tree.{json_tokens}
use Rattle.nt_event.specs.Json.{AllInRange}
use Rattle.nt_event.specs.Standing.{SpellsTrees, jsons_of}
use Rattle.nt_column.specs.Column.{Buffer, columns_of}
use Rattle.nt_grammar.specs.Table.{Table}
use Rattle.nt_plans.specs.Plan.{PlansData}
use Rattle.nt_plans.specs.Place.{open_plans}
use Rattle.nt_trees.specs.Described.{IsSetOf}
use Rattle.nt_trees.specs.Sound.{AllSound}
use Rattle.nt_trees.specs.Put.{put_trees}
use Rattle.nt_trees.specs.Fits.{fit_plans, fits_entry}
use Rattle.nt_trees.specs.Views.{cols_of}
use Rattle.nt_shred.specs.Frame.{HasRoomFor}
use Rattle.nt_shred.specs.Places.{AddsUpTo}
use Rattle.nt_shred.specs.Steps.{GainsInRoom, IsLast}
use Rattle.nt_shred.specs.declared.line.Direct.{Direct}

-- the whole line is an array of a tree for each plan, and they are added, by no more elements a column than bytes
pub record PutsLine (ps : PlansData) (line : List ℕ) (old new : List Buffer) : Type 0 where
  pub found : List TreeData
  pub told : tokens line ≡ json_tokens (array (jsons_of (trees_of found)))
  pub range : AllInRange (trees_of found)
  pub fitting : fit_plans ps (trees_of found) ≡ true
  pub gains : GainsInRoom (put_trees ps (trees_of found)) old new
  pub few : AddsUpTo (length line) old new

-- the set has the columns of a schema, sound for the entries so far
pub record IsSoundSet (t : Table) (bs : List Buffer) : Type 0 where
  pub set : IsSetOf t.columns (columns_of bs)
  pub size : ℕ
  pub sound : AllSound (open_plans t) (cols_of bs) size

-- a line spells trees, one for each open field at the top level, and they are added
pub record PutsEntry (t : Table) (line : List ℕ) (old new : List Buffer) : Type 0 where
  pub found : List TreeData
  pub spells : SpellsTrees found line
  pub fitting : fits_entry t (trees_of found) ≡ true
  pub added : cols_of new ≡ put_trees (open_plans t) (trees_of found) (cols_of old)
  pub last : (n : ℕ) → AllSound (open_plans t) (cols_of old) n → IsLast (open_plans t) (trees_of found) n (cols_of new)
  pub set : IsSetOf t.columns (columns_of new)

-- what is known of the room in these columns holds
abbrev pub KnowsRoom : Direct → List Buffer → Type 0
KnowsRoom d bs = 0 < d.room → HasRoomFor bs d.room
