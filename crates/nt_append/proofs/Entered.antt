-- A cluster that is committed and handed back behind those of a history.
use Rattle.std.proofs.Common.{◌≡◌, ◌∙◌, ap, sym, refl, ℕ, ◌+◌, ◌-◌, false, List, [], ◌∷◌, ◌++◌, length, None, Some, arith}
use Rattle.std.specs.Prelude.{slice_get}
use Rattle.std.proofs.Math.ListN.{set}
use Rattle.nt_machine.specs.declared.entry.Entry.{Entry}
use Rattle.nt_machine.specs.History.{Cluster, Out, Settled, ranges_of}
use Rattle.nt_machine.specs.Legal.{IsOut, IsAllowed, IsLegal, end_after}
use Rattle.nt_machine.proofs.Legality.{ranges_of-snoc, ranges_of-back, IsLegalAfter-snoc, end_after-snoc}
use Rattle.nt_book.specs.declared.meta.ClusterMeta.{ClusterMeta}
use Rattle.nt_book.specs.Books.{BookData, book_ranges, book_end}
use Rattle.nt_book.specs.Entries.{committed_entry, settled_entry}
use Rattle.nt_commit.proofs.Unstaged.{clusters-plain}
use Rattle.nt_append.specs.Appending.{settled_cluster, GainsCluster}

-- the item behind a list
item-behind : {A : Type 0} (xs : List A) (x : A) → slice_get (xs ++ x ∷ []) (length xs) ≡ Some x
item-behind [] x = refl
item-behind (y ∷ xs) x = item-behind xs x

set-behind : {A : Type 0} (xs : List A) (x y : A) → set (xs ++ x ∷ []) (length xs) y ≡ xs ++ y ∷ []
set-behind [] x y = refl
set-behind (z ∷ xs) x y = ap (λ (l : List _). z ∷ l) (set-behind xs x y)

module _ (history : List (Entry ClusterMeta)) (start : ℕ) (meta : ClusterMeta) (n : ℕ) (is : n ≡ length (ranges_of history)) where
  abbrev pub committed : List (Entry ClusterMeta)
  committed = history ++ committed_entry n start meta ∷ []

  abbrev cluster : Cluster ClusterMeta
  cluster = record { context = meta.context; number = n; start = start; len = meta.len; meta = meta; state = Out }

  clusters-committed : ranges_of committed ≡ ranges_of history ++ cluster ∷ []
  clusters-committed = ranges_of-snoc history (committed_entry n start meta)

  -- its range is out
  pub out-committed : IsOut (ranges_of committed) meta.context n
  out-committed = record {
    cluster = cluster;
    at = ap (λ (cs : List (Cluster ClusterMeta)). slice_get cs n) clusters-committed
        ∙ (ap (λ (k : ℕ). slice_get (ranges_of history ++ cluster ∷ []) k) is ∙ item-behind (ranges_of history) cluster);
    own = refl;
    out = refl;
  }

  -- and then it is settled
  clusters-settled : (place : ℕ) → IsLegal place committed
      → ranges_of (committed ++ settled_entry meta.context n ∷ []) ≡ ranges_of history ++ settled_cluster n start meta ∷ []
  unfolding out-committed
  clusters-settled place legal =
      ranges_of-snoc committed (settled_entry meta.context n)
      ∙ (ranges_of-back place meta.context n (Settled None) committed legal out-committed
      ∙ (ap (λ (cs : List (Cluster ClusterMeta)). set cs n (settled_cluster n start meta)) clusters-committed
      ∙ (ap (λ (k : ℕ). set (ranges_of history ++ cluster ∷ []) k (settled_cluster n start meta)) is
      ∙ set-behind (ranges_of history) cluster (settled_cluster n start meta))))

-- a book into which it was entered
module _ (book mid next : BookData) (meta : ClusterMeta) (n : ℕ) (is : n ≡ length (book_ranges book))
    (plain : book.staged ≡ false)
    (legal : IsLegal book.begin book.history)
    (allowed : IsAllowed book.begin (ranges_of book.history) (committed_entry n (book_end book) meta))
    (first : mid ≡ record book { history = book.history ++ committed_entry n (book_end book) meta ∷ []; spare = book.spare - 1 })
    (then_settled : next ≡ record mid { history = mid.history ++ settled_entry meta.context n ∷ [] }) where
  next-is : next ≡ record book {
    history = committed book.history (book_end book) meta n is ++ settled_entry meta.context n ∷ [];
    spare = book.spare - 1;
  }
  next-is = then_settled ∙ ap (λ (b : BookData). record b { history = b.history ++ settled_entry meta.context n ∷ [] }) first

  pub gains : GainsCluster meta book next
  gains = record {
    clusters = clusters-plain next (ap (λ (b : BookData). b.staged) next-is ∙ plain)
        ∙ (ap book_ranges next-is
        ∙ (clusters-settled book.history (book_end book) meta n is book.begin
        (IsLegalAfter-snoc book.begin [] book.history (committed_entry n (book_end book) meta) legal allowed)
        ∙ (ap (λ (k : ℕ). book_ranges book ++ settled_cluster k (book_end book) meta ∷ []) is
        ∙ ap (λ (cs : List (Cluster ClusterMeta)). cs ++ settled_cluster (length cs) (book_end book) meta ∷ [])
        (sym (clusters-plain book plain)))));
    same = next-is ∙ ap (λ (b : BookData). record book { history = b.history; spare = b.spare }) (sym next-is);
  }

-- a book that gained a cluster and isn't staged gained its range
pub ranges-gained : (meta : ClusterMeta) (old new : BookData) → old.staged ≡ false → GainsCluster meta old new
    → book_ranges new ≡ book_ranges old ++ settled_cluster (length (book_ranges old)) (book_end old) meta ∷ []
ranges-gained meta old new plain gains =
    sym (clusters-plain new (ap (λ (b : BookData). b.staged) gains.same ∙ plain))
    ∙ (gains.clusters
    ∙ ap (λ (cs : List (Cluster ClusterMeta)). cs ++ settled_cluster (length cs) (book_end old) meta ∷ []) (clusters-plain old plain))

-- where it ends then
pub end-gained : (meta : ClusterMeta) (old new : BookData) → old.staged ≡ false → GainsCluster meta old new
    → book_end new ≡ book_end old + meta.len
end-gained meta old new plain gains =
    omega (
      arith,
      ap (λ (b : BookData). book_end b) gains.same,
      ap (λ (cs : List (Cluster ClusterMeta)). end_after old.begin cs) (ranges-gained meta old new plain gains),
      end_after-snoc old.begin (book_ranges old) (settled_cluster (length (book_ranges old)) (book_end old) meta),
    )
