-- Files whose clusters are copies of those of other files, page by page as these are stored
-- (RNTuple Binary Format Specification 1.0.0.0, sections Pages, Page Locations and Page List Envelope).
use Rattle.std.specs.Prelude.{ℕ, ◌≡◌, ◌+◌, ◌<◌, ◌^◌, ◌==◌, ◌&&◌, not, List, [], ◌∷◌, map, length, Option, Some, None, Ok}
use Rattle.std.specs.Prelude.{if◌then◌else◌}
use Rattle.std.specs.List.{AllByRecursion}
use Rattle.nt_types.specs.TreeData.{TreesData}
use Rattle.nt_types.specs.declared.column_type.ColumnType.{ColumnType}
use Rattle.nt_format.specs.Pieces.{window}
use Rattle.nt_grammar.specs.declared.rows.ColumnRow.{ColumnRow}
use Rattle.nt_grammar.specs.Table.{Table}
use Rattle.nt_plans.specs.Place.{open_plans}
use Rattle.nt_plans.specs.Needs.{need_of}
use Rattle.nt_machine.specs.History.{Cluster, ranges_of}
use Rattle.nt_book.specs.declared.meta.ClusterMeta.{ClusterMeta}
use Rattle.nt_book.specs.Books.{BookData, book_clusters}
use Rattle.nt_pagelists.specs.declared.column.KnownColumn.{KnownColumn}
use Rattle.nt_pagelists.specs.declared.page.PageItem.{PageItem}
use Rattle.nt_pagelists.specs.declared.cluster.ClusterList.{ClusterList}
use Rattle.nt_file_meaning.specs.Outlines.{known_column, outline_of}
use Rattle.nt_file_meaning.specs.Clusters.{kind_of_code, pages_listed, begins_behind}
use Rattle.nt_file_meaning.specs.Holds.{HoldsCluster}
use Rattle.nt_pagelists.specs.Blobs.{blob}
use Rattle.nt_lists.specs.Parts.{AreBehind}
use Rattle.nt_layout.specs.Headers.{clusters_place}
use Rattle.nt_layout.specs.Finished.{middle, finished}
use Rattle.nt_layout.specs.Laid.{Measures, IsWithin, IsBookOf, RangesAreClusters, range_of}
use Rattle.nt_copied.specs.Stored.{StoredPage, stored_payload, stored_meta}

-- the pages that have elements: of an empty page nothing is stored, and none can say that a checksum follows
abbrev pub filled_pages : List PageItem → List PageItem
filled_pages [] = []
filled_pages (p ∷ ps) = if p.count == 0 then filled_pages ps else p ∷ filled_pages ps

-- the pages of a column that are read in a cluster: none of a closed one, nor of one that begins behind the cluster
abbrev pub read_pages : ClusterList → ℕ → KnownColumn → Option ColumnType → List PageItem
read_pages k id c None = []
read_pages k id c (Some kind) = if c.is_open && not (begins_behind k c) then filled_pages (pages_listed k id) else []

-- a page as it stands in a file
abbrev pub page_there : List ℕ → PageItem → StoredPage
page_there file p = record { count = p.count; bytes = window p.size file p.place }

-- the pages of a column as they stand there
abbrev pub column_there : List ℕ → ClusterList → ℕ → KnownColumn → ℕ → List StoredPage
column_there file k id c code = map (page_there file) (read_pages k id c (kind_of_code code))

-- those of columns whose ids go on from this one
abbrev pub columns_there : List ℕ → ClusterList → Table → ℕ → List ColumnRow → List (List StoredPage)
columns_there file k t id [] = []
columns_there file k t id (c ∷ cs) =
    column_there file k id (known_column (need_of t id) c) c.code ∷ columns_there file k t (id + 1) cs

-- a cluster of a file, and the schema by which it is read
pub record Source : Type 0 where
  pub file : List ℕ
  pub table : Table
  pub list : ClusterList

-- its stored pages, column by column
abbrev pub stored_columns : Source → List (List StoredPage)
stored_columns s = columns_there s.file s.list s.table 0 s.table.columns

-- the clusters of a file, each as a source
abbrev pub sources_of : List ℕ → Table → List ClusterList → List Source
sources_of file t [] = []
sources_of file t (k ∷ ks) = record { file = file; table = t; list = k } ∷ sources_of file t ks

-- the counts of the pages are signed in 32 bits, as a page list tells them
abbrev pub HasFewElements : ClusterList → Type 0
HasFewElements k = (id : ℕ) → AllByRecursion (λ (p : PageItem). p.count < 2 ^ 31) (pages_listed k id)

-- no column is deferred
abbrev pub NoneDeferred : List ColumnRow → Type 0
NoneDeferred cs = AllByRecursion (λ (c : ColumnRow). c.first ≡ 0) cs

-- by both schemas the same columns are read as the same trees
pub record ReadAlike (t s : Table) : Type 0 where
  pub plans : open_plans t ≡ open_plans s
  pub codes : map (λ (c : ColumnRow). c.code) t.columns ≡ map (λ (c : ColumnRow). c.code) s.columns

-- the range of a cluster has the stored pages of a source, and this is kept of it; the source holds these entries, under a schema
-- that is read alike
pub record IsCopyOf (t : Table) (s : Source) (entries : List TreesData) (c : Cluster ClusterMeta) (range : List ℕ) : Type 0 where
  pub alike : ReadAlike t s.table
  pub none_deferred : NoneDeferred s.table.columns
  pub holds : HoldsCluster s.file s.table s.list entries
  pub bytes_are : range ≡ blob c.start (stored_payload (stored_columns s))
  pub meta_is : c.meta ≡ stored_meta c.meta.context s.list.entries (stored_columns s)

-- each range of these clusters is a copy of some source, which holds the entries of the cluster
pub data AreCopies (t : Table) : List Source → List (List TreesData) → List (List ℕ) → List (Cluster ClusterMeta) → Type 0 where
  no_copy : AreCopies t [] [] [] []
  and_copy : {s : Source} {ss : List Source} {entries : List TreesData} {others : List (List TreesData)} {range : List ℕ}
      {ranges : List (List ℕ)} {c : Cluster ClusterMeta} {cs : List (Cluster ClusterMeta)} → IsCopyOf t s entries c range
      → AreCopies t ss others ranges cs → AreCopies t (s ∷ ss) (entries ∷ others) (range ∷ ranges) (c ∷ cs)

-- the file is the finished one of a schema whose clusters are copies of these sources, in order: the range of each is such a copy, and
-- all parts lie in order, each where the book has it
pub record IsCopied (file : List ℕ) (t : Table) (sources : List Source) (clusters : List (List TreesData)) (m : Measures) : Type 0 where
  pub book : BookData
  pub is_of : IsBookOf t book
  pub within : IsWithin t m book
  pub whole : RangesAreClusters m.staged book
  -- by the number of the range, as they were reserved
  pub ranges : List (List ℕ)
  pub lens : map length ranges ≡ map (λ (c : Cluster ClusterMeta). c.len) (ranges_of book.history)
  pub copies : AreCopies t sources clusters (map (range_of ranges) (book_clusters book)) (book_clusters book)
  pub behind : AreBehind (clusters_place t) (middle m.staged t book m.group ranges)
  pub is : file ≡ finished m.staged t book m.group ranges

-- the file has an outline of this schema, in each of whose clusters stand, column by column and page by page, the bytes of a source's
-- stored pages
pub record HasStoredPages (file : List ℕ) (t : Table) (sources : List Source) : Type 0 where
  pub lists : List ClusterList
  pub outline : outline_of file ≡ Ok (record { table = t; clusters = lists })
  pub pages : map stored_columns (sources_of file t lists) ≡ map stored_columns sources
