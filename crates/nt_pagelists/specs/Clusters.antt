-- The clusters of a page list, read from bytes (RNTuple Binary Format Specification 1.0.0.0, sections Cluster Summary Record Frame and
-- Page Locations).
use Rattle.std.specs.Prelude.{ℕ, zero, suc, ◌+◌, ◌-◌, ◌^◌, min, ◌==◌, List, [], ◌∷◌, ◌++◌, length, drop, nat_lt, if◌then◌else◌, Result, Ok}
use Rattle.std.specs.Prelude.{Err}
use Rattle.std.specs.Int.{w64}
use Rattle.nt_num.specs.Place.{At}
use Rattle.nt_num.specs.Cursor.{little}
use Rattle.nt_num.specs.Codes.{bad_group, bad_cluster, bad_page_list}
use Rattle.nt_num.specs.Faults.{fault}
use Rattle.nt_num.specs.declared.fault.ReadError.{ReadError}
use Rattle.nt_lists.specs.Chaining.{◌>>=◌}
use Rattle.nt_format.specs.Reading.{placed}
use Rattle.nt_format.specs.Frames.{record_at, list_at}
use Rattle.nt_pagelists.specs.declared.column.KnownColumn.{KnownColumn}
use Rattle.nt_pagelists.specs.declared.cluster.ClusterSummary.{ClusterSummary}
use Rattle.nt_pagelists.specs.declared.cluster.ColumnList.{ColumnList}
use Rattle.nt_pagelists.specs.declared.cluster.ClusterList.{ClusterList}
use Rattle.nt_pagelists.specs.declared.group.Group.{Group}
use Rattle.nt_pagelists.specs.Columns.{in_column, paged_elements, judged_unlisted}
use Rattle.nt_pagelists.specs.Pages.{column_lists_on}

-- the list of columns of a cluster; it may lack columns at its end
unfoldable pub outer_list_at : ClusterSummary → List KnownColumn → At → Result ((ℕ × At) × At) ReadError
outer_list_at k columns here = do
  list ← placed (list_at here)
  if nat_lt (length columns) list.0.0 then Err (in_column k.number 0 (fault bad_page_list here.place)) else Ok list

-- the pages of a cluster, whose frame begins here
unfoldable pub cluster_list_at : ClusterSummary → List KnownColumn → List ℕ → At → Result (ClusterList × At) ReadError
cluster_list_at k columns elements here = do
  list ← outer_list_at k columns here
  lists ← column_lists_on k columns elements list.0.0 [] list.0.1
  sound ← judged_unlisted k here.place list.0.0 (drop list.0.0 columns)
  Ok (record { first = k.first; entries = k.entries; outer = here.place; columns = lists.0 }, list.1)

-- the elements of each column with those of a cluster; a number that doesn't fit 64 bits is kept as the greatest that does
abbrev pub with_elements : List ℕ → List ColumnList → List ℕ
with_elements es [] = es
with_elements [] (l ∷ ls) = []
with_elements (e ∷ es) (l ∷ ls) = min (e + paged_elements l.pages) (2 ^ 64 - 1) ∷ with_elements es ls

-- the pages of these clusters behind these, with the elements of each column before them
abbrev pub cluster_lists_on : List KnownColumn → List ClusterSummary → List ℕ → List ClusterList → At
    → Result (List ClusterList × List ℕ) ReadError
cluster_lists_on columns [] elements lists here = Ok (lists, elements)
cluster_lists_on columns (k ∷ ks) elements lists here =
    cluster_list_at k columns elements here >>= λ list.
    cluster_lists_on columns ks (with_elements elements list.0.columns) (lists ++ list.0 ∷ []) list.1

-- the pages of these clusters, whose list begins here; as many as the group has
unfoldable pub cluster_lists_at : Group → List KnownColumn → List ClusterSummary → List ℕ → At
    → Result (List ClusterList × List ℕ) ReadError
cluster_lists_at g columns ks elements here = do
  list ← placed (list_at here)
  if list.0.0 == g.clusters then cluster_lists_on columns ks elements [] list.0.1 else Err (fault bad_group here.place)

-- the first entry of a cluster, which so many entries come before; its frame begins at that place
unfoldable pub first_entry_at : ℕ → ℕ → ℕ → At → Result (ℕ × At) ReadError
first_entry_at number entries frame here = do
  word ← placed (little w64 here)
  if word.0 == entries then Ok word else Err (in_column number 0 (fault bad_cluster frame))

-- the number of its entries; no flag above its 56 bits is known
unfoldable pub entry_count_at : ℕ → ℕ → At → Result (ℕ × At) ReadError
entry_count_at number frame here = do
  word ← placed (little w64 here)
  if nat_lt word.0 (2 ^ 56) then Ok word else Err (in_column number 0 (fault bad_cluster frame))

-- the summary of the cluster of this number, which so many entries come before
unfoldable pub summary_at : ℕ → ℕ → At → Result (ClusterSummary × At) ReadError
summary_at number entries here = do
  frame ← placed (record_at here)
  first ← first_entry_at number entries here.place frame.0
  count ← entry_count_at number here.place first.1
  Ok (record { number = number; first = first.0; entries = count.0 }, frame.1)

-- so many summaries behind these, and the number of entries with theirs
abbrev pub summaries_on : ℕ → ℕ → ℕ → List ClusterSummary → At → Result ((List ClusterSummary × ℕ) × At) ReadError
summaries_on zero number entries ks here = Ok ((ks, entries), here)
summaries_on (suc n) number entries ks here =
    summary_at number entries here >>= λ k. summaries_on n (number + 1) (entries + k.0.entries) (ks ++ k.0 ∷ []) k.1

-- the summaries of the clusters of a group, whose list begins here; as many as the group has, with the entries that it spans
unfoldable pub summaries_at : Group → ℕ → ℕ → At → Result (List ClusterSummary × At) ReadError
summaries_at g number entries here = do
  list ← placed (list_at here)
  all ← (if list.0.0 == g.clusters then summaries_on list.0.0 number entries [] list.0.1 else Err (fault bad_group here.place))
  if all.0.1 == entries + g.span then Ok (all.0.0, list.1) else Err (fault bad_group here.place)
