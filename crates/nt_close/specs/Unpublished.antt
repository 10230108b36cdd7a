-- Which ranges of a book are filled, and no clusters: where clusters are staged, those of contexts that didn't publish.
use Rattle.std.specs.Prelude.{◌≡◌, ℕ, ◌<◌, true, [], length}
use Rattle.std.specs.List.{AllByRecursion}
use Rattle.nt_machine.specs.History.{publishers_of}
use Rattle.nt_machine.specs.Legal.{IsFilledRange}
use Rattle.nt_book.specs.Books.{BookData, book_ranges, book_clusters, range_at, cluster_at}

-- some cluster has the range of this number
abbrev pub HasClusterOf : BookData → ℕ → Type 0
HasClusterOf book n = (k : ℕ) × (k < length (book_clusters book)) × ((cluster_at book k).number ≡ n)

-- none of the first clusters has it
abbrev pub NoneBeforeHas : BookData → ℕ → ℕ → Type 0
NoneBeforeHas book n count = (k : ℕ) → k < count → (cluster_at book k).number ≡ n → ⊥

-- each range before this one is a cluster, if it is filled
abbrev pub NoneUnpublishedBefore : BookData → ℕ → Type 0
NoneUnpublishedBefore book n = (k : ℕ) → k < n → IsFilledRange (range_at book k) → HasClusterOf book k

-- each filled range is a cluster
abbrev pub NoneUnpublished : BookData → Type 0
NoneUnpublished book = NoneUnpublishedBefore book (length (book_ranges book))

-- the lowest filled range that is no cluster; the clusters are staged, for else the ranges are the clusters
pub record IsFirstUnpublished (book : BookData) (range : ℕ) : Type 0 where
  pub staged : book.staged ≡ true
  pub inside : range < length (book_ranges book)
  pub filled : IsFilledRange (range_at book range)
  pub none : NoneBeforeHas book range (length (book_clusters book))
  pub first : NoneUnpublishedBefore book range

-- all ranges are filled, and nobody published any
pub record IsAllUnpublished (book : BookData) : Type 0 where
  pub staged : book.staged ≡ true
  pub unpublished : publishers_of book.history ≡ []
  pub filled : AllByRecursion IsFilledRange (book_ranges book)
