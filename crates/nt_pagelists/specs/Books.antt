-- The clusters of a book, as a page list is written of them.
use Rattle.std.specs.Prelude.{ℕ, ◌+◌, true, List, [], map, length, take, slice_index_or}
use Rattle.std.specs.List.{range_with_len}
use Rattle.nt_machine.specs.History.{Cluster}
use Rattle.nt_container.specs.Lengths.{blob_key_len}
use Rattle.nt_book.specs.declared.meta.PageMeta.{PageMeta}
use Rattle.nt_book.specs.declared.meta.ClusterMeta.{ClusterMeta}
use Rattle.nt_book.specs.Books.{BookData, book_clusters, cluster_at, first_entry, column_offset, elements_before}
use Rattle.nt_pagelists.specs.declared.page.PageItem.{PageItem}
use Rattle.nt_pagelists.specs.PageLists.{ProgressCounts}
use Rattle.nt_pagelists.specs.Writing.{ListedColumn, ListedCluster}

-- where the payload of a cluster begins: behind the key of its range
abbrev pub payload_place : Cluster ClusterMeta → ℕ
payload_place c = c.start + blob_key_len

-- a page of a cluster whose payload begins at that place; the page's checksum stands behind it
abbrev pub page_item : ℕ → PageMeta → PageItem
page_item payload p = record { count = p.count; place = payload + p.place; size = p.size; checked = true }

-- a column of a cluster
abbrev pub listed_column : BookData → ℕ → ℕ → ListedColumn
listed_column book k column = record {
  offset = column_offset book k column;
  pages = map (page_item (payload_place (cluster_at book k))) (slice_index_or (cluster_at book k).meta.pages column []);
}

-- the cluster of this number, which lists each column that it has a list of pages for
abbrev pub listed_cluster : BookData → ℕ → ListedCluster
listed_cluster book k = record {
  summary = record { number = k; first = first_entry book k; entries = (cluster_at book k).meta.entries };
  columns = map (listed_column book k) (range_with_len 0 (length (cluster_at book k).meta.pages));
}

-- so many clusters from this number on
abbrev pub listed_clusters : BookData → ℕ → ℕ → List ListedCluster
listed_clusters book from count = map (listed_cluster book) (range_with_len from count)

-- what is read of a book before its cluster of this number
abbrev pub progress_before : BookData → ℕ → ProgressCounts
progress_before book k = record {
  clusters = k;
  entries = first_entry book k;
  elements = map (elements_before (take k (book_clusters book))) (range_with_len 0 (length book.firsts));
}
