-- When a file holds the entries of a schema, in the standard's words and not in a reader's order: it has an outline, the listed pages give
-- the columns, and the columns give the trees of the entries (RNTuple Binary Format Specification 1.0.0.0).
use Rattle.std.specs.Prelude.{ℕ, ◌≡◌, ◌+◌, true, false, List, [], ◌∷◌, ◌++◌, take, Some, None}
use Rattle.nt_format.specs.Pieces.{piece}
use Rattle.nt_types.specs.TreeData.{TreesData}
use Rattle.nt_types.specs.declared.column_type.ColumnType.{ColumnType}
use Rattle.nt_encode.specs.Pages.{page_size}
use Rattle.nt_encode.specs.Elements.{Element, page_elements}
use Rattle.nt_grammar.specs.Table.{Table}
use Rattle.nt_grammar.specs.declared.rows.ColumnRow.{ColumnRow}
use Rattle.nt_plans.specs.Place.{open_plans}
use Rattle.nt_plans.specs.Needs.{need_of}
use Rattle.nt_trees.specs.Sound.{AllSound}
use Rattle.nt_pagelists.specs.declared.column.KnownColumn.{KnownColumn}
use Rattle.nt_pagelists.specs.declared.page.PageItem.{PageItem}
use Rattle.nt_pagelists.specs.declared.cluster.ClusterList.{ClusterList}
use Rattle.nt_file_meaning.specs.Outlines.{Outline, known_column}
use Rattle.nt_file_meaning.specs.Describes.{HasOutline}
use Rattle.nt_file_meaning.specs.Clusters.{stored_len, is_checked, kind_of_code, pages_listed, begins_behind, zero_elements, columns_by_id}
use Rattle.nt_file_meaning.specs.Clusters.{entries_of_columns}

-- a page stands in the file where its item says, has the size of its elements and its checksum, and gives these elements
pub record HoldsPage (file : List ℕ) (kind : ColumnType) (p : PageItem) (es : List Element) : Type 0 where
  pub stored : List ℕ
  pub size : p.size ≡ page_size kind p.count
  pub there : piece file p.place (stored_len p) ≡ Some stored
  pub checked : is_checked p stored ≡ true
  pub gives : es ≡ page_elements kind p.count (take p.size stored)

-- pages give these elements, one page behind the other
pub data HoldsPages (file : List ℕ) (kind : ColumnType) : List PageItem → List Element → Type 0 where
  no_page : HoldsPages file kind [] []
  and_page : {p : PageItem} {ps : List PageItem} {es others : List Element} → HoldsPage file kind p es → HoldsPages file kind ps others
      → HoldsPages file kind (p ∷ ps) (es ++ others)

-- the elements of a column in a cluster
pub data HoldsColumn (file : List ℕ) (k : ClusterList) (id : ℕ) (c : KnownColumn) (code : ℕ) : List Element → Type 0 where
  -- a closed column isn't read
  closed : c.is_open ≡ false → HoldsColumn file k id c code []
  -- a column that begins behind the entries of the cluster has zeros
  not_begun : c.is_open ≡ true → begins_behind k c ≡ true → {es : List Element} → es ≡ zero_elements k.entries
      → HoldsColumn file k id c code es
  -- nor is one whose type is none of those that can be; no open column has such a type
  untyped : c.is_open ≡ true → begins_behind k c ≡ false → kind_of_code code ≡ None → HoldsColumn file k id c code []
  -- any other has the elements of its pages
  in_pages : {kind : ColumnType} {es : List Element} → c.is_open ≡ true → begins_behind k c ≡ false → kind_of_code code ≡ Some kind
      → HoldsPages file kind (pages_listed k id) es → HoldsColumn file k id c code es

-- the elements of columns whose ids go on from this one
pub data HoldsColumns (file : List ℕ) (k : ClusterList) (t : Table) : ℕ → List ColumnRow → List (List Element) → Type 0 where
  no_column : {id : ℕ} → HoldsColumns file k t id [] []
  and_column : {id : ℕ} {c : ColumnRow} {cs : List ColumnRow} {es : List Element} {others : List (List Element)}
      → HoldsColumn file k id (known_column (need_of t id) c) c.code es → HoldsColumns file k t (id + 1) cs others
      → HoldsColumns file k t id (c ∷ cs) (es ∷ others)

-- a cluster has these entries: its columns are sound, and give the trees
pub record HoldsCluster (file : List ℕ) (t : Table) (k : ClusterList) (entries : List TreesData) : Type 0 where
  pub columns : List (List Element)
  pub holds : HoldsColumns file k t 0 t.columns columns
  pub sound : AllSound (open_plans t) (columns_by_id columns) k.entries
  pub give : entries ≡ entries_of_columns t columns k.entries

-- clusters have these entries, each its own
pub data HoldsClusters (file : List ℕ) (t : Table) : List ClusterList → List (List TreesData) → Type 0 where
  no_cluster : HoldsClusters file t [] []
  and_cluster : {k : ClusterList} {ks : List ClusterList} {entries : List TreesData} {others : List (List TreesData)}
      → HoldsCluster file t k entries → HoldsClusters file t ks others → HoldsClusters file t (k ∷ ks) (entries ∷ others)

-- a file holds the entries of its clusters, under a schema
pub record HoldsFile (file : List ℕ) (read : Table × List (List TreesData)) : Type 0 where
  pub outline : Outline
  pub has : HasOutline file outline
  pub schema : read.0 ≡ outline.table
  pub clusters : HoldsClusters file outline.table outline.clusters read.1
