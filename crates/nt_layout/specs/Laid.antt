-- The finished file of entries: the range of each cluster is the blob of its entries.
use Rattle.std.specs.Prelude.{ℕ, ◌≡◌, ◌<◌, ◌≤◌, ◌^◌, Bool, false, List, [], ◌∷◌, map, length, slice_index_or, Some}
use Rattle.std.specs.List.{AllByRecursion, range_with_len}
use Rattle.nt_types.specs.TreeData.{TreesData}
use Rattle.nt_grammar.specs.Table.{Table}
use Rattle.nt_grammar.specs.declared.rows.ColumnRow.{ColumnRow}
use Rattle.nt_machine.specs.History.{Cluster, ranges_of}
use Rattle.nt_book.specs.declared.meta.ClusterMeta.{ClusterMeta}
use Rattle.nt_book.specs.Books.{BookData, book_ranges, book_clusters}
use Rattle.nt_book.specs.Kept.{IsBookKept}
use Rattle.nt_types.specs.declared.column_type.ColumnType.{ColumnType}
use Rattle.nt_column.specs.Elements.{AreElementsOf}
use Rattle.nt_column.specs.Column.{Column, elements_at, kind_at}
use Rattle.nt_pages.specs.Image.{payload}
use Rattle.nt_pages.specs.Metas.{cluster_meta}
use Rattle.nt_plans.specs.Place.{open_plans}
use Rattle.nt_trees.specs.Described.{IsSetOf}
use Rattle.nt_trees.specs.Sound.{AllSound}
use Rattle.nt_trees.specs.Nones.{HaveZeroNones}
use Rattle.nt_trees.specs.TreeAt.{each_at}
use Rattle.nt_pagelists.specs.Blobs.{blob, blob_len}
use Rattle.nt_layout.specs.Headers.{header_object, header_sum, clusters_place}
use Rattle.nt_pagelists.specs.Objects.{ClusterSpan, list_len}
use Rattle.nt_lists.specs.Parts.{AreBehind}
use Rattle.nt_layout.specs.Finished.{spans, list_places, middle, footer_object, finished, file_len}

-- the columns of a schema give these entries: their elements are of their types, they are sound, choices without a value have index 0,
-- and of each entry they have the trees of the open fields
pub record Gives (t : Table) (columns : List Column) (entries : List TreesData) : Type 0 where
  pub set : IsSetOf t.columns columns
  pub in_range : (k : ℕ) (kind : ColumnType) → kind_at columns k ≡ Some kind → AreElementsOf kind (elements_at columns k)
  pub sound : AllSound (open_plans t) (elements_at columns) (length entries)
  pub nones : HaveZeroNones (open_plans t) (elements_at columns)
  pub trees : entries ≡ map (each_at (open_plans t) (elements_at columns)) (range_with_len 0 (length entries))

-- the bytes are the blob of these entries at a place, on pages of at most so many elements, and this is kept of it
pub record IsBlobOfEntries (t : Table) (page : ℕ) (entries : List TreesData) (place : ℕ) (bytes : List ℕ)
    (meta : ClusterMeta) : Type 0 where
  pub columns : List Column
  pub gives : Gives t columns entries
  pub bytes_are : bytes ≡ blob place (payload page columns)
  pub meta_is : meta ≡ cluster_meta page meta.context (length entries) columns

-- each range of these clusters is the blob of its entries
pub data AreBlobsOf (t : Table) (page : ℕ) : List (List TreesData) → List (List ℕ) → List (Cluster ClusterMeta) → Type 0 where
  none_left : AreBlobsOf t page [] [] []
  and_blob : {entries : List TreesData} {others : List (List TreesData)} {range : List ℕ} {ranges : List (List ℕ)} {c : Cluster ClusterMeta}
      {cs : List (Cluster ClusterMeta)} → IsBlobOfEntries t page entries c.start range c.meta → AreBlobsOf t page others ranges cs
      → AreBlobsOf t page (entries ∷ others) (range ∷ ranges) (c ∷ cs)

-- how a file is laid out: whether its clusters are staged, the most elements of a page, the most clusters of a group, and the most bytes of
-- a blob and of the file
pub record Measures : Type 0 where
  pub staged : Bool
  pub page : ℕ
  pub group : ℕ
  pub range : ℕ
  pub file : ℕ

-- pages and groups aren't empty, and the largest limits hold
pub record AreMeasures (m : Measures) : Type 0 where
  pub page : 0 < m.page
  pub group : 0 < m.group
  pub range : m.range ≤ 2 ^ 30
  pub file : m.file ≤ 2 ^ 56

-- the blobs that are written of a book, and the whole file, are within the limits
pub record IsWithin (t : Table) (m : Measures) (book : BookData) : Type 0 where
  pub header : blob_len (length (header_object t)) ≤ m.range
  pub lists : AllByRecursion (λ (s : ClusterSpan). list_len (header_sum t) book s ≤ m.range) (spans book m.group)
  pub footer : blob_len (length (footer_object t book (list_places m.staged t book m.group))) ≤ m.range
  pub file : file_len t book (list_places m.staged t book m.group) ≤ m.file

-- the book of a schema's file: its ranges begin behind the header, and no column is deferred
pub record IsBookOf (t : Table) (book : BookData) : Type 0 where
  pub kept : IsBookKept book
  pub begin : book.begin ≡ clusters_place t
  pub firsts : map (λ (c : ColumnRow). c.first) t.columns ≡ book.firsts
  pub none_deferred : AllByRecursion (λ (c : ColumnRow). c.first ≡ 0) t.columns

-- each range of a book is a cluster; unless these are staged, they stand in the order of their ranges
pub record RangesAreClusters (staged : Bool) (book : BookData) : Type 0 where
  pub all : length (book_clusters book) ≡ length (book_ranges book)
  pub in_order : staged ≡ false → book_clusters book ≡ book_ranges book

-- the bytes of the range that a cluster has, by the number of that range
abbrev pub range_of : List (List ℕ) → Cluster ClusterMeta → List ℕ
range_of ranges c = slice_index_or ranges c.number []

-- the file is the finished one of a schema and these entries, cluster by cluster: the range of each holds the blob of its entries, there is
-- no other range, and all parts lie in order, each where the book has it
pub record IsLaid (file : List ℕ) (t : Table) (clusters : List (List TreesData)) (m : Measures) : Type 0 where
  pub book : BookData
  pub is_of : IsBookOf t book
  pub within : IsWithin t m book
  pub whole : RangesAreClusters m.staged book
  -- by the number of the range, as they were reserved
  pub ranges : List (List ℕ)
  pub lens : map length ranges ≡ map (λ (c : Cluster ClusterMeta). c.len) (ranges_of book.history)
  pub blobs_are : AreBlobsOf t m.page clusters (map (range_of ranges) (book_clusters book)) (book_clusters book)
  pub behind : AreBehind (clusters_place t) (middle m.staged t book m.group ranges)
  pub is : file ≡ finished m.staged t book m.group ranges
