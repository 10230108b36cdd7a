-- A cluster that was read, and the entries that its columns give.
use Rattle.std.specs.Prelude.{ℕ, ◌≡◌, List, length, Option}
use Rattle.nt_types.specs.TreeData.{TreesData}
use Rattle.nt_encode.specs.Elements.{Element}
use Rattle.nt_grammar.specs.Table.{Table}
use Rattle.nt_plans.specs.Place.{open_plans}
use Rattle.nt_trees.specs.Columns.{Cols}
use Rattle.nt_trees.specs.Sound.{AllSound}
use Rattle.nt_fitting.specs.Fitting.{AreOfRows}
use Rattle.nt_pagelists.specs.declared.cluster.ClusterList.{ClusterList}
use Rattle.nt_file_meaning.specs.Clusters.{entries_of_columns}
use Rattle.nt_view.specs.Loaded.{Loaded, loaded_elements}
use Rattle.nt_listing.specs.Listings.{columns_of_loaded, AreColumnsOf}
use Rattle.nt_listing.specs.Loading.{IsLoadedFrom}

-- what was read of a cluster: the rows of its schema, the elements of its columns by id, the number of its entries, and the pages that are
-- kept as they were loaded, of which a decoded cluster has none
pub record ClusterData : Type 0 where
  pub table : Table
  pub columns : List (List Element)
  pub entries : ℕ
  pub loaded : Loaded

-- the entries that it gives: of each the trees of the open fields at the top level, in order
abbrev pub given_entries : ClusterData → List TreesData
given_entries c = entries_of_columns c.table c.columns c.entries

-- the columns of so many entries of a schema: they are sound, and their elements of the types of their rows
pub record AreClusterColumns (t : Table) (cols : Cols) (entries : ℕ) : Type 0 where
  pub sound : AllSound (open_plans t) cols entries
  pub typed : AreOfRows t.columns cols

-- loaded columns are those of a schema, and of so many entries
pub record IsSoundOver (t : Table) (l : Loaded) (entries : ℕ) : Type 0 where
  pub all : AreColumnsOf (length t.columns) l
  pub are : AreClusterColumns t (λ k. loaded_elements l k) entries

-- a cluster was read by what a page list tells of it: its columns are those of its pages, which are all those of its open columns, with
-- the bytes of a file that tells them
pub record IsClusterFrom (file : Option (List ℕ)) (number : ℕ) (k : ClusterList) (t : Table) (c : ClusterData) : Type 0 where
  pub table : c.table ≡ t
  pub entries : c.entries ≡ k.entries
  pub columns : c.columns ≡ columns_of_loaded 0 (length t.columns) c.loaded
  pub loaded : IsLoadedFrom file number k t c.loaded
