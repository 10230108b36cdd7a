-- The first entries of a book's clusters.
use Rattle.std.proofs.Common.{ℕ, ◌≤◌, List, take, subst}
use Rattle.std.proofs.lemmas.List.Sums.{sum_by-take-le}
use Rattle.std.proofs.lemmas.List.{take-take}
use Rattle.nt_machine.specs.History.{Cluster}
use Rattle.nt_book.specs.declared.meta.ClusterMeta.{ClusterMeta}
use Rattle.nt_book.specs.Books.{BookData, book_clusters, entry_count, first_entry}

-- those of fewer clusters are no more
pub first_entry_le : (book : BookData) (a b : ℕ) → a ≤ b → first_entry book a ≤ first_entry book b
first_entry_le book a b le =
    subst (λ (cs : List (Cluster ClusterMeta)). entry_count cs ≤ first_entry book b) (take-take a b (book_clusters book) le)
    (sum_by-take-le (λ (c : Cluster ClusterMeta). c.meta.entries) (take b (book_clusters book)) a)
