-- What page lists and footers can hold, and what written ones are read as.
use Rattle.std.specs.Prelude.{ℕ, suc, ◌≡◌, ◌+◌, ◌-◌, ◌^◌, ◌<◌, ◌≤◌, min, true, List, [], ◌∷◌, length, drop, slice_index_or}
use Rattle.std.specs.List.{list_all}
use Rattle.std.specs.Int.{w64, cast_signed}
use Rattle.nt_format.specs.Frames.{list_frame}
use Rattle.nt_format.specs.Locators.{IsLink}
use Rattle.nt_pagelists.specs.declared.column.KnownColumn.{KnownColumn}
use Rattle.nt_pagelists.specs.declared.cluster.ClusterSummary.{ClusterSummary}
use Rattle.nt_pagelists.specs.declared.cluster.ColumnList.{ColumnList}
use Rattle.nt_pagelists.specs.declared.cluster.ClusterList.{ClusterList}
use Rattle.nt_pagelists.specs.declared.page.PageItem.{PageItem}
use Rattle.nt_pagelists.specs.declared.group.Group.{Group}
use Rattle.nt_pagelists.specs.Columns.{unknown_column, paged_elements, is_sound_column}
use Rattle.nt_pagelists.specs.Writing.{ListedColumn, ListedCluster, column_list_text, cluster_list_text, summary_texts}

-- what is read of columns whose frames begin at this place
abbrev pub column_lists_from : ℕ → List ListedColumn → List ColumnList
column_lists_from place [] = []
column_lists_from place (c ∷ cs) =
    record {
      inner = place;
      offset = cast_signed w64 c.offset;
      pages = c.pages;
    } ∷ column_lists_from (place + length (column_list_text c)) cs

-- what is read of a cluster whose frame begins at this place
abbrev pub cluster_list_from : ℕ → ListedCluster → ClusterList
cluster_list_from place w =
    record { first = w.summary.first; entries = w.summary.entries; outer = place; columns = column_lists_from (place + 12) w.columns }

-- what is read of clusters whose frames begin at this place
abbrev pub cluster_lists_from : ℕ → List ListedCluster → List ClusterList
cluster_lists_from place [] = []
cluster_lists_from place (w ∷ ws) = cluster_list_from place w ∷ cluster_lists_from (place + length (cluster_list_text w)) ws

-- where the frame of the first cluster begins in a page list that begins at this place
abbrev pub first_cluster_place : ℕ → List ListedCluster → ℕ
first_cluster_place place ws = place + 8 + length (list_frame (length ws) (summary_texts ws)) + 12

-- the elements of each column with those of a cluster
abbrev pub with_listed : List ℕ → List ListedColumn → List ℕ
with_listed es [] = es
with_listed [] (c ∷ cs) = []
with_listed (e ∷ es) (c ∷ cs) = min (e + paged_elements c.pages) (2 ^ 64 - 1) ∷ with_listed es cs

-- the same with those of all these clusters
abbrev pub with_all_listed : List ℕ → List ListedCluster → List ℕ
with_all_listed es [] = es
with_all_listed es (w ∷ ws) = with_all_listed (with_listed es w.columns) ws

-- the entries of clusters
abbrev pub listed_entries : List ListedCluster → ℕ
listed_entries [] = 0
listed_entries (w ∷ ws) = w.summary.entries + listed_entries ws

-- what an item can say: a page of no elements can't be told to have a checksum
pub record IsPageItem (p : PageItem) : Type 0 where
  pub count : p.count < 2 ^ 31
  pub some : p.checked ≡ true → 0 < p.count
  pub size : p.size < 2 ^ 31
  pub place : p.place < 2 ^ 64

-- each of these pages can be told
abbrev pub ArePageItems : List PageItem → Type 0
ArePageItems [] = Unit {0}
ArePageItems (p ∷ ps) = IsPageItem p × ArePageItems ps

-- the column with this id in a cluster: it has what it must have behind so many elements
pub record IsListedColumn (k : ClusterSummary) (columns : List KnownColumn) (elements : List ℕ) (id : ℕ) (c : ListedColumn) : Type 0 where
  pub items : ArePageItems c.pages
  pub few : length c.pages < 2 ^ 32
  pub offset : c.offset < 2 ^ 63
  pub sound : is_sound_column k (slice_index_or columns id unknown_column) (slice_index_or elements id 0) c.pages c.offset ≡ true

-- columns of a cluster whose ids go on from this one
abbrev pub AreListedColumns : ClusterSummary → List KnownColumn → List ℕ → ℕ → List ListedColumn → Type 0
AreListedColumns k columns elements id [] = Unit {0}
AreListedColumns k columns elements id (c ∷ cs) = IsListedColumn k columns elements id c × AreListedColumns k columns elements (suc id) cs

-- a cluster of this number, behind so many entries and these elements
pub record IsListedCluster (columns : List KnownColumn) (number entries : ℕ) (elements : List ℕ) (w : ListedCluster) : Type 0 where
  pub numbered : w.summary.number ≡ number
  pub begins : w.summary.first ≡ entries
  pub low : entries < 2 ^ 64
  pub size : w.summary.entries < 2 ^ 56
  pub listed : AreListedColumns w.summary columns elements 0 w.columns
  pub few : length w.columns ≤ length columns
  pub unlisted : list_all (λ c. is_sound_column w.summary c 0 [] 0) (drop (length w.columns) columns) ≡ true

-- clusters whose numbers, entries and elements go on from these
abbrev pub AreListedClusters : List KnownColumn → ℕ → ℕ → List ℕ → List ListedCluster → Type 0
AreListedClusters columns number entries elements [] = Unit {0}
AreListedClusters columns number entries elements (w ∷ ws) =
    IsListedCluster columns number entries elements w
    × AreListedClusters columns (number + 1) (entries + w.summary.entries) (with_listed elements w.columns) ws

-- a group behind so many entries and clusters
pub record IsGroup (entries clusters : ℕ) (g : Group) : Type 0 where
  pub begins : g.first ≡ entries
  pub low : entries + g.span < 2 ^ 64
  pub few : clusters + g.clusters < 2 ^ 32
  pub leads : IsLink g.link

-- groups that go on from so many entries and clusters
abbrev pub AreGroups : ℕ → ℕ → List Group → Type 0
AreGroups entries clusters [] = Unit {0}
AreGroups entries clusters (g ∷ gs) = IsGroup entries clusters g × AreGroups (entries + g.span) (clusters + g.clusters) gs
