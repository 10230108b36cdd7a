-- What is required of the clusters that a page list lists, and what follows from them for the page lists behind it (RNTuple Binary Format
-- Specification 1.0.0.0, sections Cluster Group Record Frame, Cluster Summary Record Frame and Page Locations).
use Rattle.std.specs.Prelude.{ℕ, ◌≡◌, ◌+◌, ◌^◌, ◌<◌, ◌≤◌, true, List, [], ◌∷◌, length, slice_index_or}
use Rattle.nt_pagelists.specs.declared.column.KnownColumn.{KnownColumn}
use Rattle.nt_pagelists.specs.declared.cluster.ClusterSummary.{ClusterSummary}
use Rattle.nt_pagelists.specs.declared.cluster.ColumnList.{ColumnList}
use Rattle.nt_pagelists.specs.declared.cluster.ClusterList.{ClusterList}
use Rattle.nt_pagelists.specs.declared.group.Group.{Group}
use Rattle.nt_pagelists.specs.Columns.{unknown_column, is_sound_column}
use Rattle.nt_pagelists.specs.Clusters.{with_elements}
use Rattle.nt_pagelists.specs.PageLists.{ProgressCounts, with_group}
use Rattle.nt_file_meaning.specs.Clusters.{no_list}
use Rattle.nt_payloads.specs.ListTexts.{index_word, PageListText}

-- what a page list tells of the entries of a cluster, which so many clusters come before
abbrev pub summary_of : ℕ → ClusterList → ClusterSummary
summary_of number k = record { number = number; first = k.first; entries = k.entries }

-- the column has what it must have in a cluster, behind so many elements
abbrev pub IsSoundIn : ClusterSummary → KnownColumn → ℕ → ColumnList → Type 0
IsSoundIn k c before l = is_sound_column k c before l.pages (index_word l.offset) ≡ true

-- a cluster behind so many clusters and entries and the elements of each column: it begins behind these entries, and each column has what
-- it must have there, be it listed or not; the index of an open column isn't negative (own profile)
pub record IsClusterBehind (columns : List KnownColumn) (number entries : ℕ) (elements : List ℕ) (k : ClusterList) : Type 0 where
  pub begins : k.first ≡ entries
  pub few : length k.columns ≤ length columns
  pub sound : (id : ℕ) → id < length columns
      → IsSoundIn (summary_of number k) (slice_index_or columns id unknown_column) (slice_index_or elements id 0)
      (slice_index_or k.columns id no_list)
  pub stored : (id : ℕ) → id < length k.columns → (slice_index_or columns id unknown_column).is_open ≡ true
      → index_word (slice_index_or k.columns id no_list).offset < 2 ^ 63

-- clusters, each behind those before it
abbrev pub AreClustersBehind : List KnownColumn → ℕ → ℕ → List ℕ → List ClusterList → Type 0
AreClustersBehind columns number entries elements [] = Unit {0}
AreClustersBehind columns number entries elements (k ∷ ks) =
    IsClusterBehind columns number entries elements k
    × AreClustersBehind columns (number + 1) (entries + k.entries) (with_elements elements k.columns) ks

-- the entries of these clusters
abbrev pub entries_of_lists : List ClusterList → ℕ
entries_of_lists [] = 0
entries_of_lists (k ∷ ks) = k.entries + entries_of_lists ks

-- the elements of each column with those of these clusters
abbrev pub with_lists : List ℕ → List ClusterList → List ℕ
with_lists elements [] = elements
with_lists elements (k ∷ ks) = with_lists (with_elements elements k.columns) ks

-- the payload of a group's page list, behind those before it: the clusters that it lists, and what was listed with them
pub record IsPageList (sum : ℕ) (g : Group) (columns : List KnownColumn) (before : ProgressCounts) (place : ℕ) (payload : List ℕ)
    (listed : List ClusterList × ProgressCounts) : Type 0 where
  pub text : PageListText sum place payload listed.0
  pub count : length listed.0 ≡ g.clusters
  pub span : entries_of_lists listed.0 ≡ g.span
  pub behind : AreClustersBehind columns before.clusters before.entries before.elements listed.0
  pub after : listed.1 ≡ with_group before g (with_lists before.elements listed.0)
