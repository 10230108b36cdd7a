-- Filled ranges that are no clusters: there are none where there are as many clusters as ranges.
use Rattle.std.proofs.Common.{◌≡◌, ◌∙◌, ◌⊎◌, inl, inr, ℕ, zero, suc, ◌+◌, ◌<◌, ◌≤◌, ◌==◌, Bool, true, false, cond, List, [], ◌∷◌, length}
use Rattle.std.proofs.Common.{refl, sym, ap, arith}
use Rattle.std.specs.Prelude.{slice_index_or}
use Rattle.std.specs.List.{sum_by}
use Rattle.std.proofs.lemmas.Bool.{eq-eqb, eqb-true, false≢true}
use Rattle.std.proofs.lemmas.List.Sums.{sum_by-cons}
use Rattle.nt_machine.specs.History.{Cluster}
use Rattle.nt_machine.proofs.ClusterSums.{clusters-sum-le}
use Rattle.nt_machine.proofs.Legality.{IsNumbered, IsNumbered-fold}
use Rattle.nt_book.specs.declared.meta.ClusterMeta.{ClusterMeta}
use Rattle.nt_book.specs.Books.{BookData, book_ranges, book_clusters, no_cluster}
use Rattle.nt_book.specs.Kept.{IsBookKept}
use Rattle.nt_close.specs.Unpublished.{HasClusterOf, NoneUnpublished}

abbrev number_at : List (Cluster ClusterMeta) → ℕ → ℕ
number_at cs k = (slice_index_or cs k no_cluster).number

-- whether a cluster has another number: 1 if so
abbrev other : ℕ → Cluster ClusterMeta → ℕ
other n c = cond (c.number == n) 0 1

numbered-at : (m : ℕ) (cs : List (Cluster ClusterMeta)) → IsNumbered m cs → (n : ℕ) → n < length cs → number_at cs n ≡ m + n
numbered-at m [] h n less = absurd (omega (arith, less))
numbered-at m (c ∷ cs) h zero less = omega (arith, h.0)
numbered-at m (c ∷ cs) h (suc n) less = omega (arith, numbered-at (suc m) cs h.1 n (omega (arith, less)))

other-le : (b : Bool) → cond b 0 1 ≤ 1
other-le true = omega arith
other-le false = omega arith

others-le : (n : ℕ) (cs : List (Cluster ClusterMeta)) → sum_by (other n) cs ≤ length cs
others-le n [] = omega arith
others-le n (c ∷ cs) = omega (arith, sum_by-cons (other n) c cs, other-le (c.number == n), others-le n cs)

-- one has the number
others-less : (n : ℕ) (cs : List (Cluster ClusterMeta)) (k : ℕ) → k < length cs → number_at cs k ≡ n → sum_by (other n) cs < length cs
others-less n [] k less is = absurd (omega (arith, less))
others-less n (c ∷ cs) zero less is =
    omega (arith, sum_by-cons (other n) c cs, ap {B = ℕ} (λ (b : Bool). cond b 0 1) (eq-eqb c.number n is), others-le n cs)
others-less n (c ∷ cs) (suc k) less is =
    omega (arith, sum_by-cons (other n) c cs, other-le (c.number == n), others-less n cs k (omega (arith, less)) is)

-- none has it
abbrev NoneHas : ℕ → List (Cluster ClusterMeta) → Type 0
NoneHas n cs = (k : ℕ) → k < length cs → number_at cs k ≡ n → ⊥

abbrev OneHas : ℕ → List (Cluster ClusterMeta) → Type 0
OneHas n cs = (k : ℕ) × (k < length cs) × (number_at cs k ≡ n)

others-all : (n : ℕ) (cs : List (Cluster ClusterMeta)) → NoneHas n cs → sum_by (other n) cs ≡ length cs
others-all n [] none = refl
others-all n (c ∷ cs) none =
    at (c.number == n) refl (others-all n cs (λ k less is. none (suc k) (omega (arith, less)) is))
  where
    at : (b : Bool) → c.number == n ≡ b → sum_by (other n) cs ≡ length cs → sum_by (other n) (c ∷ cs) ≡ suc (length cs)
    at true is rest = absurd (none zero (omega arith) (eqb-true c.number n is))
    at false is rest = omega (arith, sum_by-cons (other n) c cs, ap {B = ℕ} (λ (b : Bool). cond b 0 1) is, rest)

find : (n : ℕ) (cs : List (Cluster ClusterMeta)) → OneHas n cs ⊎ NoneHas n cs
find n [] = inr (λ k less is. omega (arith, less))
find n (c ∷ cs) = at (c.number == n) refl (find n cs)
  where
    on : NoneHas n cs → c.number == n ≡ false → NoneHas n (c ∷ cs)
    on none differs zero less is = false≢true (sym differs ∙ eq-eqb c.number n is)
    on none differs (suc k) less is = none k (omega (arith, less)) is

    at : (b : Bool) → c.number == n ≡ b → OneHas n cs ⊎ NoneHas n cs → OneHas n (c ∷ cs) ⊎ NoneHas n (c ∷ cs)
    at true is rest = inl (zero, omega arith, eqb-true c.number n is)
    at false is (inl one) = inl (suc one.0, omega (arith, one.1), one.2)
    at false is (inr none) = inr (on none is)

-- clusters are ranges of different numbers: where there are as many, each range is one
pub each-is-cluster : (book : BookData) → IsBookKept book → length (book_clusters book) ≡ length (book_ranges book)
    → (n : ℕ) → n < length (book_ranges book) → HasClusterOf book n
each-is-cluster book kept same n less = at (find n (book_clusters book))
  where
    number : number_at (book_ranges book) n ≡ n
    number =
        omega (arith, numbered-at 0 (book_ranges book) (IsNumbered-fold book.begin [] book.history kept.legal tt) n less)

    at : OneHas n (book_clusters book) ⊎ NoneHas n (book_clusters book) → HasClusterOf book n
    at (inl one) = one
    at (inr none) =
        absurd (omega (
          arith,
          others-all n (book_clusters book) none,
          others-less n (book_ranges book) n less number,
          clusters-sum-le (other n) book.staged book.history kept.staging,
          same,
        ))

pub none-left : (book : BookData) → IsBookKept book → length (book_clusters book) ≡ length (book_ranges book) → NoneUnpublished book
none-left book kept same k less filled = each-is-cluster book kept same k less
