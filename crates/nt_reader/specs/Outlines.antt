-- What a reader has of a file.
use Rattle.std.specs.Prelude.{ℕ, false, List, [], length, slice_index_or, Result}
use Rattle.nt_num.specs.declared.fault.ReadError.{ReadError}
use Rattle.nt_types.specs.TreeData.{TreesData}
use Rattle.nt_pagelists.specs.declared.cluster.ClusterList.{ClusterList}
use Rattle.nt_file_meaning.specs.Outlines.{Outline}
use Rattle.nt_encode.specs.Elements.{Element}
use Rattle.nt_pagelists.specs.declared.page.PageItem.{PageItem}
use Rattle.nt_file_meaning.specs.Clusters.{cluster_of, columns_in_cluster, pages_listed}

-- what is listed of a cluster past the last one
abbrev pub unlisted_cluster : ClusterList
unlisted_cluster = record { first = 0; entries = 0; outer = 0; columns = [] }

-- the cluster with this number
abbrev pub numbered_cluster : Outline → ℕ → ClusterList
numbered_cluster o k = slice_index_or o.clusters k unlisted_cluster

-- the entries of the cluster with this number in a file with this outline, or the cluster's first fault
abbrev pub entries_in : Outline → ℕ → List ℕ → Result (List TreesData) ReadError
entries_in o k file = cluster_of file o.table k (numbered_cluster o k)

-- the elements of the columns of that cluster by their ids, where nothing is wrong with them; or the same fault
abbrev pub columns_read : Outline → ℕ → List ℕ → Result (List (List Element)) ReadError
columns_read o k file = columns_in_cluster file o.table k (numbered_cluster o k)

-- how many pages are listed of a column in that cluster
abbrev pub page_number : Outline → ℕ → ℕ → ℕ
page_number o k column = length (pages_listed (numbered_cluster o k) column)

-- what is listed of a page past the last one
abbrev pub unlisted_page : PageItem
unlisted_page = record { count = 0; size = 0; place = 0; checked = false }

-- how many elements one of these pages has
abbrev pub page_count : Outline → ℕ → ℕ → ℕ → ℕ
page_count o k column i = (slice_index_or (pages_listed (numbered_cluster o k) column) i unlisted_page).count
