-- The range of a cluster, by its number; where clusters aren't staged they are the ranges.
use Rattle.std.proofs.Common.{◌≡◌, ℕ, zero, suc, ◌<◌, Bool, true, false, List, [], ◌∷◌, length, refl, sym, ap, subst, ◌∙◌, arith, Option}
use Rattle.std.specs.Prelude.{None, Some, slice_get, slice_index_or}
use Rattle.std.proofs.lemmas.Bool.{false≢true}
use Rattle.nt_machine.specs.History.{Cluster, clusters_of}
use Rattle.nt_book.specs.declared.meta.ClusterMeta.{ClusterMeta}
use Rattle.nt_book.specs.Books.{BookData, book_ranges, book_clusters, range_at, cluster_at, no_cluster}
use Rattle.nt_book.specs.Kept.{AreNamed, IsBookKept}

is_held : {X : Type 0} → Option X → Bool
is_held None = false
is_held (Some x) = true

held_or : {X : Type 0} → X → Option X → X
held_or d None = d
held_or d (Some x) = x

got-at : {X : Type 0} (xs : List X) (i : ℕ) (x d : X) → slice_get xs i ≡ Some x → (i < length xs) × (slice_index_or xs i d ≡ x)
unfolding is_held held_or
got-at {X = X} [] i x d is = absurd (false≢true (ap (λ (o : Option X). is_held o) is))
got-at {X = X} (x ∷ xs) zero y d is = (omega arith, ap (λ (o : Option X). held_or d o) is)
got-at (x ∷ xs) (suc i) y d is = let more = got-at xs i y d is in (omega (arith, more.0), more.1)

named-at : (rs cs : List (Cluster ClusterMeta)) → AreNamed rs cs → (k : ℕ) → k < length cs
    → slice_get rs (slice_index_or cs k no_cluster).number ≡ Some (slice_index_or cs k no_cluster)
named-at rs [] named k less = absurd (omega (arith, less))
named-at rs (c ∷ cs) named zero less = named.0
named-at rs (c ∷ cs) named (suc k) less = named-at rs cs named.1 k (omega (arith, less))

-- there is one, and it is that cluster
pub range-of-cluster : (book : BookData) → IsBookKept book → (k : ℕ) → k < length (book_clusters book)
    → ((cluster_at book k).number < length (book_ranges book)) × (range_at book (cluster_at book k).number ≡ cluster_at book k)
range-of-cluster book kept k less =
    got-at (book_ranges book) (cluster_at book k).number (cluster_at book k) no_cluster
    (named-at (book_ranges book) (book_clusters book) kept.named k less)

-- by a number that is read
pub range-there : (book : BookData) → IsBookKept book → (k n : ℕ) → k < length (book_clusters book) → n ≡ (cluster_at book k).number
    → n < length (book_ranges book)
range-there book kept k n less is =
    let there = range-of-cluster book kept k less in
    subst (λ (m : ℕ). m < length (book_ranges book)) (sym is) there.0

pub starts-there : (book : BookData) → IsBookKept book → (k n : ℕ) → k < length (book_clusters book) → n ≡ (cluster_at book k).number
    → (range_at book n).start ≡ (cluster_at book k).start
starts-there book kept k n less is =
    let there = range-of-cluster book kept k less in
    ap (λ (m : ℕ). (range_at book m).start) is ∙ ap (λ (c : Cluster ClusterMeta). c.start) there.1

-- clusters that aren't staged
pub clusters-unstaged : (book : BookData) → book.staged ≡ false → book_clusters book ≡ book_ranges book
clusters-unstaged book not = ap (λ (b : Bool). clusters_of b book.history) not

pub grouped-unstaged : (book : BookData) (g : ℕ × ℕ) → IsBookKept book → book.group ≡ Some g → book.staged ≡ false
unfolding is_held
grouped-unstaged book g kept grouped = at book.staged refl
  where
    at : (b : Bool) → book.staged ≡ b → book.staged ≡ false
    at true is = absurd (false≢true (ap (λ (o : Option (ℕ × ℕ)). is_held o) (sym (kept.no_groups is) ∙ grouped)))
    at false is = is
