-- Books that aren't staged: their clusters are their ranges.
use Rattle.std.proofs.Common.{◌≡◌, ◌∙◌, ap, sym, refl, ℕ, Bool, true, false, List, length, Option, Some, None}
use Rattle.nt_machine.specs.History.{Cluster, clusters_of}
use Rattle.nt_book.specs.declared.meta.ClusterMeta.{ClusterMeta}
use Rattle.nt_book.specs.Books.{BookData, book_ranges, book_clusters}
use Rattle.nt_book.specs.Kept.{IsBookKept}

pub clusters-plain : (b : BookData) → b.staged ≡ false → book_clusters b ≡ book_ranges b
clusters-plain b plain = ap (λ (s : Bool). clusters_of s b.history) plain

pub count-plain : (b : BookData) → b.staged ≡ false → length (book_clusters b) ≡ length (book_ranges b)
count-plain b plain = ap (λ (cs : List (Cluster ClusterMeta)). length cs) (clusters-plain b plain)

-- a book with groups isn't staged
pub group-plain : (b : BookData) (g : ℕ × ℕ) → IsBookKept b → b.group ≡ Some g → b.staged ≡ false
group-plain b g kept is = at b.staged refl
  where
    at : (s : Bool) → b.staged ≡ s → s ≡ false
    at true staged = absurd (some-none (sym is ∙ kept.no_groups staged))
      where
        some-none : ◌≡◌ {A = Option (ℕ × ℕ)} (Some g) None → ⊥
        some-none same = cc same
    at false staged = refl
