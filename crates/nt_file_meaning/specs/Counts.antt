-- How many elements the lists of a cluster say that its columns have (RNTuple Binary Format Specification 1.0.0.0, section Page List
-- Envelope).
use Rattle.std.specs.Prelude.{ℕ, List, if◌then◌else◌}
use Rattle.std.specs.List.{sum_by}
use Rattle.nt_pagelists.specs.declared.column.KnownColumn.{KnownColumn}
use Rattle.nt_pagelists.specs.declared.page.PageItem.{PageItem}
use Rattle.nt_pagelists.specs.declared.cluster.ClusterList.{ClusterList}
use Rattle.nt_file_meaning.specs.Clusters.{pages_listed, begins_behind}

-- how many elements pages have
abbrev pub page_counts : List PageItem → ℕ
page_counts ps = sum_by (λ (p : PageItem). p.count) ps

-- how many zeros stand for a column in a cluster: as many as the cluster has entries where the column begins behind them
abbrev pub zeros_due : ClusterList → KnownColumn → ℕ
zeros_due k c = if c.is_open then (if begins_behind k c then k.entries else 0) else 0

-- how many elements a column has in a cluster by what is listed there: those zeros, or the elements of its pages; a closed one has none
abbrev pub listed_count : ClusterList → ℕ → KnownColumn → ℕ
listed_count k id c =
    if c.is_open then (if begins_behind k c then k.entries else page_counts (pages_listed k id)) else 0
