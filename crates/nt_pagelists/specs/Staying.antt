-- Books that agree below a cluster.
use Rattle.std.specs.Prelude.{◌≡◌, ℕ, ◌<◌, List, map, take, length, slice_index_or}
use Rattle.nt_machine.specs.History.{Cluster, Out}
use Rattle.nt_book.specs.declared.meta.ClusterMeta.{ClusterMeta}
use Rattle.nt_book.specs.Books.{BookData, book_clusters}

-- a cluster, whatever became of its range
abbrev pub without_fate : Cluster ClusterMeta → Cluster ClusterMeta
without_fate c = record c { state = Out }

-- so many clusters are those from before, whatever became of their ranges, and the columns from before begin where they did
pub record StaysBelow (n : ℕ) (old new : BookData) : Type 0 where
  pub clusters : map without_fate (take n (book_clusters new)) ≡ map without_fate (take n (book_clusters old))
  pub firsts : (column : ℕ) → column < length old.firsts → slice_index_or new.firsts column 0 ≡ slice_index_or old.firsts column 0
