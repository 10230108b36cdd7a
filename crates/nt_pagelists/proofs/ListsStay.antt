-- Page lists of books that agree below the clusters that they list.
use Rattle.std.proofs.Common.{◌≡◌, ◌∙◌, ap, refl, ℕ, zero, suc, ◌+◌, ◌<◌, ◌≤◌, List, [], ◌∷◌, map, length, take, arith}
use Rattle.std.specs.Prelude.{slice_index_or}
use Rattle.std.specs.List.{range_with_len, sum_by}
use Rattle.std.proofs.lemmas.List.Sums.{sum_by-cons}
use Rattle.nt_format.specs.Envelopes.{envelope}
use Rattle.nt_machine.specs.History.{Cluster}
use Rattle.nt_book.specs.declared.meta.ClusterMeta.{ClusterMeta}
use Rattle.nt_book.specs.Books.{BookData, book_clusters, cluster_at, no_cluster, first_entry, column_offset, elements_before}
use Rattle.nt_book.specs.Kept.{IsBookKept}
use Rattle.nt_book.specs.Pages.{listed_elements}
use Rattle.nt_pagelists.specs.Books.{listed_cluster, listed_clusters, listed_column, page_item, payload_place}
use Rattle.nt_pagelists.specs.Objects.{ClusterSpan, list_object, page_list_kind}
use Rattle.nt_pagelists.specs.Staying.{StaysBelow, without_fate}
use Rattle.nt_pagelists.specs.Writing.{ListedCluster, ListedColumn, page_list_text}

same-range : {A : Type 0} (f g : ℕ → A) (from count : ℕ) → ((k : ℕ) → from ≤ k → k < from + count → f k ≡ g k)
    → map f (range_with_len from count) ≡ map g (range_with_len from count)
same-range f g from zero same = refl
same-range f g from (suc n) same =
    ap (λ (x : _). x ∷ map f (range_with_len (from + 1) n)) (same from (omega arith) (omega arith))
    ∙ ap (λ (l : List _). g from ∷ l)
    (same-range f g (from + 1) n (λ k least less. same k (omega (arith, least)) (omega (arith, less))))

-- a cluster below
same-at : (n k : ℕ) (cs ds : List (Cluster ClusterMeta)) → map without_fate (take n cs) ≡ map without_fate (take n ds) → k < n
    → without_fate (slice_index_or cs k no_cluster) ≡ without_fate (slice_index_or ds k no_cluster)
same-at zero k cs ds is less = absurd (omega (arith, less))
same-at (suc n) k [] [] is less = refl
same-at (suc n) k [] (d ∷ ds) is less = absurd (cc is)
same-at (suc n) k (c ∷ cs) [] is less = absurd (cc is)
same-at (suc n) zero (c ∷ cs) (d ∷ ds) is less = cc is
same-at (suc n) (suc k) (c ∷ cs) (d ∷ ds) is less =
    let rest : map without_fate (take n cs) ≡ map without_fate (take n ds) = cc is in same-at n k cs ds rest (omega (arith, less))

-- a sum over the clusters below, which doesn't see what became of their ranges
same-sum : (f : Cluster ClusterMeta → ℕ) → ((c : Cluster ClusterMeta) → f (without_fate c) ≡ f c) → (n k : ℕ)
    (cs ds : List (Cluster ClusterMeta)) → map without_fate (take n cs) ≡ map without_fate (take n ds) → k ≤ n
    → sum_by f (take k cs) ≡ sum_by f (take k ds)
same-sum f blind n zero cs ds is le = refl
same-sum f blind zero (suc k) cs ds is le = absurd (omega (arith, le))
same-sum f blind (suc n) (suc k) [] [] is le = refl
same-sum f blind (suc n) (suc k) [] (d ∷ ds) is le = absurd (cc is)
same-sum f blind (suc n) (suc k) (c ∷ cs) [] is le = absurd (cc is)
same-sum f blind (suc n) (suc k) (c ∷ cs) (d ∷ ds) is le =
    let first : without_fate c ≡ without_fate d = cc is in
    let rest : map without_fate (take n cs) ≡ map without_fate (take n ds) = cc is in
    omega (
      arith,
      blind c,
      blind d,
      ap f first,
      same-sum f blind n k cs ds rest (omega (arith, le)),
      sum_by-cons f c (take k cs),
      sum_by-cons f d (take k ds),
    )

module _ (old new : BookData) (n : ℕ) (kept : IsBookKept old) (inside : n ≤ length (book_clusters old)) (stays : StaysBelow n old new)
  where
    same-cluster : (k : ℕ) → k < n → without_fate (cluster_at new k) ≡ without_fate (cluster_at old k)
    same-cluster k less = same-at n k (book_clusters new) (book_clusters old) stays.clusters less

    same-first : (k : ℕ) → k < n → first_entry new k ≡ first_entry old k
    same-first k less =
        same-sum (λ (c : Cluster ClusterMeta). c.meta.entries) (λ c. refl) n k (book_clusters new) (book_clusters old) stays.clusters
        (omega (arith, less))

    same-offset : (k column : ℕ) → k < n → column < length (cluster_at old k).meta.pages
        → column_offset new k column ≡ column_offset old k column
    same-offset k column less listed =
        omega (
          arith,
          stays.firsts column (omega (arith, listed, (kept.clusters k (omega (arith, less, inside))).lists)),
          same-sum (λ (c : Cluster ClusterMeta). listed_elements c.meta column) (λ c. refl) n k (book_clusters new) (book_clusters old)
              stays.clusters (omega (arith, less)),
        )

    same-column : (k column : ℕ) → k < n → column < length (cluster_at old k).meta.pages
        → listed_column new k column ≡ listed_column old k column
    same-column k column less listed =
        ap (λ (o : ℕ). record {
          offset = o;
          pages = map (page_item (payload_place (cluster_at new k))) (slice_index_or (cluster_at new k).meta.pages column []);
        }) (same-offset k column less listed)
        ∙ ap (λ (c : Cluster ClusterMeta). record {
          offset = column_offset old k column;
          pages = map (page_item (payload_place c)) (slice_index_or c.meta.pages column []);
        }) (same-cluster k less)

    same-listed : (k : ℕ) → k < n → listed_cluster new k ≡ listed_cluster old k
    same-listed k less =
        ap (λ (f : ℕ). record {
          summary = record { number = k; first = f; entries = (cluster_at new k).meta.entries };
          columns = map (listed_column new k) (range_with_len 0 (length (cluster_at new k).meta.pages));
        }) (same-first k less)
        ∙ (ap (λ (c : Cluster ClusterMeta). record {
          summary = record { number = k; first = first_entry old k; entries = c.meta.entries };
          columns = map (listed_column new k) (range_with_len 0 (length c.meta.pages));
        }) (same-cluster k less)
        ∙ ap (λ (cols : List ListedColumn). record {
          summary = record { number = k; first = first_entry old k; entries = (cluster_at old k).meta.entries };
          columns = cols;
        }) (same-range (listed_column new k) (listed_column old k) 0 (length (cluster_at old k).meta.pages)
        (λ column least listed. same-column k column less (omega (arith, listed)))))

-- the same list
pub list-stays : (sum : ℕ) (old new : BookData) (s : ClusterSpan) → IsBookKept old → s.from + s.count ≤ length (book_clusters old)
    → StaysBelow (s.from + s.count) old new → list_object sum new s ≡ list_object sum old s
unfolding list_object
list-stays sum old new s kept inside stays =
    ap (λ (ws : List ListedCluster). envelope page_list_kind (page_list_text sum ws))
    (same-range (listed_cluster new) (listed_cluster old) s.from s.count
    (λ k least less. same-listed old new (s.from + s.count) kept inside stays k less))
