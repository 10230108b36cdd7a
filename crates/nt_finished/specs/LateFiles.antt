-- The finished file of a schema to which fields were added between clusters.
use Rattle.std.specs.Prelude.{ℕ, ◌≡◌, ◌+◌, ◌≤◌, List, [], ◌∷◌, map, length}
use Rattle.std.specs.List.{AllByRecursion}
use Rattle.nt_types.specs.TreeData.{TreesData}
use Rattle.nt_grammar.specs.declared.rows.ColumnRow.{ColumnRow}
use Rattle.nt_grammar.specs.Table.{Table}
use Rattle.nt_lists.specs.Parts.{AreBehind}
use Rattle.nt_machine.specs.History.{Cluster, ranges_of}
use Rattle.nt_book.specs.declared.meta.ClusterMeta.{ClusterMeta}
use Rattle.nt_book.specs.Books.{BookData, book_clusters}
use Rattle.nt_book.specs.Kept.{IsBookKept}
use Rattle.nt_layout.specs.Headers.{clusters_place}
use Rattle.nt_layout.specs.Finished.{middle, finished}
use Rattle.nt_layout.specs.Laid.{IsBlobOfEntries, Measures, IsWithin, RangesAreClusters, range_of}
use Rattle.nt_finished.specs.LeftOut.{filled, LacksFields}

-- the range of a cluster that begins with this entry is the blob of entries under a table that grew to this one behind them; with the
-- zeros of the fields that they lack, its entries are these
pub record IsLateBlob (new : Table) (page first : ℕ) (c : Cluster ClusterMeta) (range : List ℕ) (all : List TreesData) : Type 0 where
  pub table : Table
  pub entries : List TreesData
  pub zeros : TreesData
  pub blob : IsBlobOfEntries table page entries c.start range c.meta
  pub begun : AllByRecursion (λ (r : ColumnRow). r.first ≤ first) table.columns
  pub lacks : LacksFields (first + c.meta.entries) new table zeros
  pub all_are : all ≡ filled zeros entries

-- each range of these clusters is such, the first of which begins with this entry
pub data AreLateBlobs (new : Table) (page : ℕ) : ℕ → List (List TreesData) → List (List ℕ) → List (Cluster ClusterMeta) → Type 0 where
  no_blob : {first : ℕ} → AreLateBlobs new page first [] [] []
  late_blob : {first : ℕ} {all : List TreesData} {others : List (List TreesData)} {range : List ℕ} {ranges : List (List ℕ)}
      {c : Cluster ClusterMeta} {cs : List (Cluster ClusterMeta)} → IsLateBlob new page first c range all
      → AreLateBlobs new page (first + c.meta.entries) others ranges cs
      → AreLateBlobs new page first (all ∷ others) (range ∷ ranges) (c ∷ cs)

-- the file is the finished one of a schema, to which fields may have been added, and these entries, cluster by cluster: all parts lie
-- in order, each where the book has it
pub record IsLaidLate (file : List ℕ) (t : Table) (clusters : List (List TreesData)) (m : Measures) : Type 0 where
  pub book : BookData
  pub kept : IsBookKept book
  pub begin : book.begin ≡ clusters_place t
  pub firsts : map (λ (c : ColumnRow). c.first) t.columns ≡ book.firsts
  pub within : IsWithin t m book
  pub whole : RangesAreClusters m.staged book
  -- by the number of the range
  pub ranges : List (List ℕ)
  pub lens : map length ranges ≡ map (λ (c : Cluster ClusterMeta). c.len) (ranges_of book.history)
  pub blobs_are : AreLateBlobs t m.page 0 clusters (map (range_of ranges) (book_clusters book)) (book_clusters book)
  pub behind : AreBehind (clusters_place t) (middle m.staged t book m.group ranges)
  pub is : file ≡ finished m.staged t book m.group ranges
