-- The payload of a page list as it is written (RNTuple Binary Format Specification 1.0.0.0, section Page List Envelope).
use Rattle.std.specs.Prelude.{ℕ, ◌-◌, ◌%◌, ◌^◌, Bool, List, ◌++◌, length, flat_map, if◌then◌else◌}
use Rattle.std.specs.Int.{w32, w64, to_le_bytes}
use Rattle.nt_format.specs.Frames.{record_frame, list_frame}
use Rattle.nt_pagelists.specs.declared.cluster.ClusterSummary.{ClusterSummary}
use Rattle.nt_pagelists.specs.declared.page.PageItem.{PageItem}

-- the pages of a column in a cluster, and the index of its first element there
pub record ListedColumn : Type 0 where
  pub offset : ℕ
  pub pages : List PageItem

-- a cluster, and the columns that it lists, by id
pub record ListedCluster : Type 0 where
  pub summary : ClusterSummary
  pub columns : List ListedColumn

-- the number of elements, below zero where a checksum follows the page
abbrev pub page_count_word : Bool → ℕ → ℕ
page_count_word checked count = if checked then (2 ^ 32 - count) % 2 ^ 32 else count

-- a page
abbrev pub page_item_text : PageItem → List ℕ
page_item_text p = to_le_bytes w32 (page_count_word p.checked p.count) ++ (to_le_bytes w32 p.size ++ to_le_bytes w64 p.place)

-- pages, one after the other
abbrev pub page_item_texts : List PageItem → List ℕ
page_item_texts ps = flat_map page_item_text ps

-- the pages of a column; behind them the index of the first element, and the compression setting, which is none (own profile)
abbrev pub column_list_text : ListedColumn → List ℕ
column_list_text c = list_frame (length c.pages) (page_item_texts c.pages ++ (to_le_bytes w64 c.offset ++ to_le_bytes w32 0))

-- columns, one after the other
abbrev pub column_list_texts : List ListedColumn → List ℕ
column_list_texts cs = flat_map column_list_text cs

-- the columns of a cluster
abbrev pub cluster_list_text : ListedCluster → List ℕ
cluster_list_text w = list_frame (length w.columns) (column_list_texts w.columns)

-- clusters, one after the other
abbrev pub cluster_list_texts : List ListedCluster → List ℕ
cluster_list_texts ws = flat_map cluster_list_text ws

-- the summary of a cluster
abbrev pub summary_text : ClusterSummary → List ℕ
summary_text k = record_frame (to_le_bytes w64 k.first ++ to_le_bytes w64 k.entries)

-- the summaries of clusters, one after the other
abbrev pub summary_texts : List ListedCluster → List ℕ
summary_texts ws = flat_map (λ (w : ListedCluster). summary_text w.summary) ws

-- a page list: the checksum of the header, the summaries, and the clusters
unfoldable pub page_list_text : ℕ → List ListedCluster → List ℕ
page_list_text sum ws = to_le_bytes w64 sum ++ (list_frame (length ws) (summary_texts ws) ++ list_frame (length ws) (cluster_list_texts ws))
