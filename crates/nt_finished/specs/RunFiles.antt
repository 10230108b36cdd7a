-- The file that holds the ranges of a run of the machine.
use Rattle.std.specs.Prelude.{◌≡◌, ℕ, List, [], map, length, slice_get, slice_index_or, Some}
use Rattle.std.specs.List.{AllZip}
use Rattle.nt_types.specs.TreeData.{TreesData}
use Rattle.nt_grammar.specs.Table.{Table}
use Rattle.nt_machine.specs.History.{Cluster, ranges_of}
use Rattle.nt_machine.specs.Machine.{Content, Empty, Bytes, Failed, ChunkRange, MachineState, chunk_name}
use Rattle.nt_book.specs.declared.meta.ClusterMeta.{ClusterMeta}
use Rattle.nt_book.specs.Books.{BookData, book_clusters}
use Rattle.nt_layout.specs.Headers.{clusters_place}
use Rattle.nt_layout.specs.Finished.{middle, finished}
use Rattle.nt_layout.specs.Laid.{IsBlobOfEntries, IsBookOf, IsWithin, RangesAreClusters, Measures}
use Rattle.nt_lists.specs.Parts.{AreBehind}

-- what stands in a range that was written
abbrev pub content_bytes : Content → List ℕ
content_bytes Empty = []
content_bytes (Bytes bytes) = bytes
content_bytes Failed = []

-- what stands in the ranges, as they were reserved
abbrev pub range_contents : List ChunkRange → List (List ℕ)
range_contents ranges = map (λ (r : ChunkRange). content_bytes r.content) ranges

module _ (t : Table) (m : Measures) (chunks : List (List (List TreesData))) (blob : ℕ → ℕ → ℕ → List ℕ) where
  -- a cluster of the book is that of a context's chunk: it stands where its range does, and has what is kept of the chunk's blob there
  pub record IsChunkCluster (ranges : List ChunkRange) (name : ℕ × ℕ) (c : Cluster ClusterMeta) : Type 0 where
    pub range : ChunkRange
    pub at : slice_get ranges c.number ≡ Some range
    pub named : chunk_name range ≡ name
    pub start : range.start ≡ c.start
    pub blob_is : (entries : List TreesData) → slice_get (slice_index_or chunks name.0 []) name.1 ≡ Some entries
        → IsBlobOfEntries t m.page entries c.start (blob name.0 name.1 c.start) c.meta

  -- the file holds the ranges of the machine, and its book has a cluster for each chunk that was committed, in the order of the commits
  pub record HoldsRun (file : List ℕ) (s : MachineState) : Type 0 where
    pub book : BookData
    pub is_of : IsBookOf t book
    pub within : IsWithin t m book
    pub whole : RangesAreClusters m.staged book
    pub clusters : AllZip (IsChunkCluster s.ranges) s.order (book_clusters book)
    pub lens : map length (range_contents s.ranges) ≡ map (λ (c : Cluster ClusterMeta). c.len) (ranges_of book.history)
    pub behind : AreBehind (clusters_place t) (middle m.staged t book m.group (range_contents s.ranges))
    pub is : file ≡ finished m.staged t book m.group (range_contents s.ranges)
