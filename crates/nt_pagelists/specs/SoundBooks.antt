-- Books whose clusters a reader takes, as their columns have what they must have.
use Rattle.std.specs.Prelude.{◌≡◌, ℕ, ◌+◌, ◌<◌, ◌≤◌, ◌⊎◌, true, List, [], map, length, slice_index_or}
use Rattle.std.specs.List.{AllByRecursion}
use Rattle.nt_book.specs.declared.meta.PageMeta.{PageMeta}
use Rattle.nt_book.specs.Pages.{element_count}
use Rattle.nt_book.specs.Books.{BookData, book_clusters, cluster_at, first_entry}
use Rattle.nt_book.specs.Kept.{IsBookKept}
use Rattle.nt_pagelists.specs.declared.column.KnownColumn.{KnownColumn}
use Rattle.nt_pagelists.specs.Columns.{unknown_column}

-- the pages of a column in a cluster of so many entries from that one on: none is empty, and a principal column has begun, and has
-- an element for each entry
pub record IsSoundList (entries first : ℕ) (c : KnownColumn) (pages : List PageMeta) : Type 0 where
  pub filled : AllByRecursion (λ (p : PageMeta). 0 < p.count) pages
  pub begun : c.is_principal ≡ true → c.first ≤ first
  pub each : c.is_principal ≡ true → element_count pages ≡ entries

-- a column that a cluster of so many entries from that one on doesn't list: a principal one has no entry there, or begins behind them
abbrev pub IsSoundUnlisted : ℕ → ℕ → KnownColumn → Type 0
IsSoundUnlisted entries first c = c.is_principal ≡ true → (entries ≡ 0) ⊎ (first + entries ≤ c.first)

-- so many clusters from this number on, each with pages of the columns that it lists, the first of these; the others may be left out
pub record HasSoundClusters (columns : List KnownColumn) (book : BookData) (from count : ℕ) : Type 0 where
  pub kept : IsBookKept book
  pub firsts : map (λ (c : KnownColumn). c.first) columns ≡ book.firsts
  pub inside : from + count ≤ length (book_clusters book)
  pub each : (k column : ℕ) → from ≤ k → k < from + count → column < length (cluster_at book k).meta.pages
      → IsSoundList (cluster_at book k).meta.entries (first_entry book k) (slice_index_or columns column unknown_column)
      (slice_index_or (cluster_at book k).meta.pages column [])
  pub others : (k column : ℕ) → from ≤ k → k < from + count → length (cluster_at book k).meta.pages ≤ column → column < length columns
      → IsSoundUnlisted (cluster_at book k).meta.entries (first_entry book k) (slice_index_or columns column unknown_column)
