-- Counts that are added up one by one.
use Rattle.std.proofs.Common.{◌≡◌, ℕ, zero, suc, ◌+◌, ◌<◌, ◌≤◌, List, [], ◌∷◌, ◌++◌, map, length, take, drop, get_or, slice_get}
use Rattle.std.proofs.Common.{Some, Result, Ok, Err, refl, sym, ap, subst, ◌∙◌, arith}
use Rattle.std.specs.List.{flat_map}
use Rattle.std.proofs.lemmas.List.{append-nil, drop_all, length-map, get_or-map}
use Rattle.std.proofs.lemmas.List.Concat.{flat_map-append}
use Rattle.std.proofs.lemmas.Option.{slice_get-get_or}
use Rattle.std.proofs.Math.Seq.{drop-cons}
use Rattle.nt_lists.specs.Chaining.{◌>>=◌}
use Rattle.nt_grammar.specs.Table.{Table}
use Rattle.nt_grammar.specs.declared.rows.ColumnRow.{ColumnRow}
use Rattle.nt_plans.specs.Needs.{need_of}
use Rattle.nt_pagelists.specs.declared.page.PageItem.{PageItem}
use Rattle.nt_pagelists.specs.declared.cluster.ClusterList.{ClusterList}
use Rattle.nt_file_meaning.specs.Outlines.{Outline, known_column}
use Rattle.nt_file_meaning.specs.Clusters.{pages_listed}
use Rattle.nt_file_meaning.specs.Counts.{zeros_due}
use Rattle.nt_reader.specs.Outlines.{page_count, page_number, numbered_cluster, unlisted_cluster, unlisted_page}
use Rattle.nt_scan.specs.Counts.{with_count, added_up, cluster_counts, column_known, column_counted, no_column_row}

drop-next : {A : Type 0} (xs : List A) (i : ℕ) (d : A) → i < length xs → drop i xs ≡ get_or xs i d ∷ drop (i + 1) xs
drop-next xs i d lt =
    let more : suc i ≡ i + 1 = omega arith in
    drop-cons xs i d lt ∙ ap (λ j. get_or xs i d ∷ drop j xs) more

-- the zeros and the pages' counts of a column
abbrev pub pages_counts : Table → ℕ → ClusterList → List ℕ
pages_counts t column k = map (λ (p : PageItem). p.count) (pages_listed k column)

row-here : (t : Table) (column zeros : ℕ) (k : ClusterList) → column < length t.columns
    → ((row : ColumnRow) → slice_get t.columns column ≡ Some row → zeros ≡ zeros_due k (known_column (need_of t column) row))
    → zeros ≡ zeros_due k (column_known t column)
row-here t column zeros k lt h = h (get_or t.columns column no_column_row) (slice_get-get_or t.columns column no_column_row lt)

pub zeros-ok : (t : Table) (column before zeros n : ℕ) (k : ClusterList) → column < length t.columns
    → ((row : ColumnRow) → slice_get t.columns column ≡ Some row → zeros ≡ zeros_due k (known_column (need_of t column) row))
    → with_count before zeros ≡ Ok n
    → added_up before (cluster_counts t column k) ≡ added_up n (drop 0 (pages_counts t column k))
zeros-ok t column before zeros n k lt h is =
    ap (λ r. r >>= λ m. added_up m (pages_counts t column k)) (ap (with_count before) (sym (row-here t column zeros k lt h)) ∙ is)

pub zeros-err : (t : Table) (column before zeros e : ℕ) (k : ClusterList) → column < length t.columns
    → ((row : ColumnRow) → slice_get t.columns column ≡ Some row → zeros ≡ zeros_due k (known_column (need_of t column) row))
    → with_count before zeros ≡ Err e → added_up before (cluster_counts t column k) ≡ Err e
zeros-err t column before zeros e k lt h is =
    ap (λ r. r >>= λ m. added_up m (pages_counts t column k)) (ap (with_count before) (sym (row-here t column zeros k lt h)) ∙ is)

next : (xs : List ℕ) (n i c : ℕ) → i < length xs → c ≡ get_or xs i 0
    → added_up n (drop i xs) ≡ (with_count n c >>= λ m. added_up m (drop (i + 1) xs))
next xs n i c lt is = ap (added_up n) (drop-next xs i 0 lt) ∙ ap (λ y. with_count n y >>= λ m. added_up m (drop (i + 1) xs)) (sym is)

pages-next : (o : Outline) (k column n i c : ℕ) → i < page_number o k column → c ≡ page_count o k column i
    → added_up n (drop i (pages_counts o.table column (numbered_cluster o k)))
    ≡ (with_count n c >>= λ m. added_up m (drop (i + 1) (pages_counts o.table column (numbered_cluster o k))))
pages-next o k column n i c lt is =
    let pages = pages_listed (numbered_cluster o k) column in
    let count = λ (p : PageItem). p.count in
    let within : i < length (map count pages) = omega (arith, lt, length-map pages count) in
    next (map count pages) n i c within (is ∙ sym (get_or-map count pages i unlisted_page 0 lt))

pub pages-ok : (o : Outline) (k column n m i c : ℕ) → i < page_number o k column → c ≡ page_count o k column i → with_count n c ≡ Ok m
    → added_up n (drop i (pages_counts o.table column (numbered_cluster o k)))
    ≡ added_up m (drop (i + 1) (pages_counts o.table column (numbered_cluster o k)))
pages-ok o k column n m i c lt is h = pages-next o k column n i c lt is
    ∙ ap (λ r. r >>= λ m. added_up m (drop (i + 1) (pages_counts o.table column (numbered_cluster o k)))) h

pub pages-err : (o : Outline) (k column n e i c : ℕ) → i < page_number o k column → c ≡ page_count o k column i → with_count n c ≡ Err e
    → added_up n (drop i (pages_counts o.table column (numbered_cluster o k))) ≡ Err e
pages-err o k column n e i c lt is h = pages-next o k column n i c lt is
    ∙ ap (λ r. r >>= λ m. added_up m (drop (i + 1) (pages_counts o.table column (numbered_cluster o k)))) h

pub pages-done : (o : Outline) (k column n i : ℕ) → page_number o k column ≤ i
    → added_up n (drop i (pages_counts o.table column (numbered_cluster o k))) ≡ Ok n
pages-done o k column n i le =
    let pages = pages_listed (numbered_cluster o k) column in
    ap (added_up n) (drop_all i (pages_counts o.table column (numbered_cluster o k))
    (omega (arith, le, length-map pages (λ (p : PageItem). p.count))))

-- counts behind others
pub counted-append : (n : ℕ) (xs ys : List ℕ) → added_up n (xs ++ ys) ≡ (added_up n xs >>= λ m. added_up m ys)
counted-append n [] ys = refl
counted-append n (x ∷ xs) ys = one (with_count n x) (λ m. counted-append m xs ys)
  where
    one : (r : Result ℕ ℕ) → ((m : ℕ) → added_up m (xs ++ ys) ≡ (added_up m xs >>= λ l. added_up l ys))
        → (r >>= λ m. added_up m (xs ++ ys)) ≡ ((r >>= λ m. added_up m xs) >>= λ m. added_up m ys)
    one (Ok m) each = each m
    one (Err e) each = refl

cluster-next : (o : Outline) (column n k : ℕ) → k < length o.clusters
    → added_up n (flat_map (cluster_counts o.table column) (drop k o.clusters))
    ≡ (added_up n (cluster_counts o.table column (numbered_cluster o k))
    >>= λ m. added_up m (flat_map (cluster_counts o.table column) (drop (k + 1) o.clusters)))
cluster-next o column n k lt =
    let f = cluster_counts o.table column in
    let here = numbered_cluster o k in
    let rest = drop (k + 1) o.clusters in
    ap (λ l. added_up n (flat_map f l)) (drop-next o.clusters k unlisted_cluster lt)
    ∙ ap (added_up n) (flat_map-append f (here ∷ []) rest ∙ ap (λ l. l ++ flat_map f rest) (one-of f here))
    ∙ counted-append n (f here) (flat_map f rest)
  where
    one-of : (f : ClusterList → List ℕ) (k : ClusterList) → flat_map f (k ∷ []) ≡ f k
    one-of f k = append-nil (f k)

pub cluster-ok : (o : Outline) (column n m k : ℕ) → k < length o.clusters
    → added_up n (cluster_counts o.table column (numbered_cluster o k)) ≡ Ok m
    → added_up n (flat_map (cluster_counts o.table column) (drop k o.clusters))
    ≡ added_up m (flat_map (cluster_counts o.table column) (drop (k + 1) o.clusters))
cluster-ok o column n m k lt h = cluster-next o column n k lt
    ∙ ap (λ r. r >>= λ m. added_up m (flat_map (cluster_counts o.table column) (drop (k + 1) o.clusters))) h

pub cluster-err : (o : Outline) (column n e k : ℕ) → k < length o.clusters
    → added_up n (cluster_counts o.table column (numbered_cluster o k)) ≡ Err e
    → added_up n (flat_map (cluster_counts o.table column) (drop k o.clusters)) ≡ Err e
cluster-err o column n e k lt h = cluster-next o column n k lt
    ∙ ap (λ r. r >>= λ m. added_up m (flat_map (cluster_counts o.table column) (drop (k + 1) o.clusters))) h

pub clusters-done : (o : Outline) (column n k : ℕ) → length o.clusters ≤ k
    → added_up n (flat_map (cluster_counts o.table column) (drop k o.clusters)) ≡ Ok n
clusters-done o column n k le = ap (λ l. added_up n (flat_map (cluster_counts o.table column) l)) (drop_all k o.clusters le)
