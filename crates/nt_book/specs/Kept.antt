-- What holds of each book.
use Rattle.std.specs.Prelude.{◌≡◌, ℕ, ◌+◌, ◌<◌, ◌≤◌, ◌^◌, true, List, length, slice_get, Some, None, IfSome}
use Rattle.std.specs.List.{AllByRecursion}
use Rattle.nt_machine.specs.History.{Cluster}
use Rattle.nt_machine.specs.Legal.{IsLegal, spans_of}
use Rattle.nt_machine.specs.Spans.{IsDisjoint}
use Rattle.nt_machine.specs.Staging.{KeepsStaging}
use Rattle.nt_book.specs.declared.meta.ClusterMeta.{ClusterMeta}
use Rattle.nt_book.specs.Books.{BookData, book_ranges, book_clusters, book_end, range_at, cluster_at}
use Rattle.nt_book.specs.Listing.{AreBeside, AtMostOneUnlisted, HasNoLists, clusters_listed, group_size}
use Rattle.nt_book.specs.Pages.{IsPaged}

-- a cluster has a list of pages for each of the first columns, of so many, and pages that lie in its range; the largest limits hold
pub record IsKeptCluster (columns : ℕ) (c : Cluster ClusterMeta) : Type 0 where
  pub lists : length c.meta.pages ≤ columns
  pub paged : IsPaged c.meta
  pub len : c.len ≡ c.meta.len
  pub short : c.meta.len ≤ 2 ^ 30
  pub low : c.start + c.meta.len ≤ 2 ^ 56

-- each cluster is the range of its number
abbrev pub AreNamed : List (Cluster ClusterMeta) → List (Cluster ClusterMeta) → Type 0
AreNamed rs cs = AllByRecursion (λ (c : Cluster ClusterMeta). slice_get rs c.number ≡ Some c) cs

-- the history is legal, and all its clusters are staged or none; its ranges lie apart, in their order and with nothing between them but the
-- page lists of full groups, unless one failed; a full group lacks its list at most where it is the last, and a staged book has no groups;
-- each cluster is one of the ranges; there are no more ranges, clusters, columns and elements before the first cluster than their numbers
-- can tell
pub record IsBookKept (book : BookData) : Type 0 where
  pub legal : IsLegal book.begin book.history
  pub staging : KeepsStaging book.staged book.history
  pub apart : IsDisjoint book.begin (spans_of (book_ranges book)) (2 ^ 56)
  pub named : AreNamed (book_ranges book) (book_clusters book)
  pub placed : book.torn ≡ None → AreBeside book.begin (group_size book.group) book.lists (spans_of (book_ranges book))
  pub no_groups : book.staged ≡ true → book.group ≡ None
  pub sized : IfSome book.group (λ g. 0 < g.0)
  pub listed : clusters_listed (group_size book.group) book.lists ≤ length (book_clusters book)
  pub few_lists : book.torn ≡ None → AtMostOneUnlisted book.group book.lists (length (book_clusters book))
  pub none_between : book.group ≡ None → HasNoLists book.lists book.torn
  pub ranges : (n : ℕ) → n < length (book_ranges book) → IsKeptCluster (length book.firsts) (range_at book n)
  pub clusters : (k : ℕ) → k < length (book_clusters book) → IsKeptCluster (length book.firsts) (cluster_at book k)
  pub end : book_end book ≤ 2 ^ 56
  pub few : length (book_ranges book) < 2 ^ 32
  pub fewer : length (book_clusters book) ≤ length (book_ranges book)
  pub columns : length book.firsts < 2 ^ 32
  pub firsts : AllByRecursion (λ first. first ≤ 2 ^ 60) book.firsts
