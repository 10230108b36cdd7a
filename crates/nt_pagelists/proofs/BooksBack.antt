-- What is written of a book's clusters is read back as these clusters.
use Rattle.std.proofs.Common.{◌≡◌, ℕ, zero, suc, ◌+◌, ◌-◌, ◌<◌, ◌≤◌, ◌^◌, min, true, List, [], ◌∷◌, ◌++◌, length, take, map, Ok, refl}
use Rattle.std.proofs.Common.{sym, ap, subst, ◌∙◌, arith}
use Rattle.std.specs.Prelude.{slice_index_or}
use Rattle.std.specs.List.{AllByRecursion, range_with_len}
use Rattle.std.proofs.lemmas.List.{length-map, get_or-map}
use Rattle.std.proofs.lemmas.List.FromFn.{length-map-range_with_len, get_or-map-range_with_len}
use Rattle.nt_format.specs.Reading.{standing}
use Rattle.nt_book.specs.declared.meta.PageMeta.{PageMeta}
use Rattle.nt_book.specs.Pages.{IsPageOf}
use Rattle.nt_book.specs.Books.{BookData, book_clusters, cluster_at, first_entry, column_offset, elements_before}
use Rattle.nt_book.specs.Kept.{IsKeptCluster}
use Rattle.nt_pagelists.specs.declared.column.KnownColumn.{KnownColumn}
use Rattle.nt_pagelists.specs.declared.cluster.ClusterSummary.{ClusterSummary}
use Rattle.nt_pagelists.specs.declared.group.Group.{Group}
use Rattle.nt_pagelists.specs.Columns.{unknown_column, paged_elements, is_sound_column}
use Rattle.nt_pagelists.specs.PageLists.{ProgressCounts, with_group, page_list_at}
use Rattle.nt_pagelists.specs.Writing.{page_list_text}
use Rattle.nt_pagelists.specs.ReadingBack.{cluster_lists_from, first_cluster_place, with_listed, with_all_listed, listed_entries}
use Rattle.nt_pagelists.specs.ReadingBack.{IsListedColumn, AreListedColumns, IsListedCluster, AreListedClusters}
use Rattle.nt_pagelists.specs.Books.{payload_place, page_item, listed_column, listed_cluster, listed_clusters, progress_before}
use Rattle.nt_pagelists.specs.SoundBooks.{HasSoundClusters}
use Rattle.nt_pagelists.proofs.SoundLists.{items-told, items-counted, none-left, column-sound, elements-fit, entries-fit, elements-more}
use Rattle.nt_pagelists.proofs.SoundLists.{entries-more, few-pages, unlisted-sound, list_all-drop}
use Rattle.nt_book.proofs.OffsetRows.{none-past}
use Rattle.nt_pagelists.proofs.ClustersBack.{page-list-reads}

-- a book's clusters, of which these columns are known
module _ (columns : List KnownColumn) (book : BookData) (from count : ℕ) (h : HasSoundClusters columns book from count) where
  abbrev cells : ℕ → ℕ → ℕ
  cells k column = elements_before (take k (book_clusters book)) column

  abbrev sums : ℕ → List ℕ
  sums k = (progress_before book k).elements

  as_many : length columns ≡ length book.firsts
  as_many = sym (length-map columns (λ (c : KnownColumn). c.first)) ∙ ap length h.firsts

  -- a column's first element and its elements before a cluster
  first-is : (column : ℕ) → column < length columns → slice_index_or book.firsts column 0
      ≡ (slice_index_or columns column unknown_column).first
  first-is column less =
      ap (λ (l : List ℕ). slice_index_or l column 0) (sym h.firsts) ∙ get_or-map (λ (c : KnownColumn). c.first) columns column
      unknown_column 0 less

  sum-is : (k column : ℕ) → column < length columns → slice_index_or (sums k) column 0 ≡ cells k column
  sum-is k column less = get_or-map-range_with_len (cells k) 0 (length book.firsts) column column 0
      (omega (arith, less, as_many)) (omega arith)

  offset-is : (k column : ℕ) → column < length columns → column_offset book k column
      ≡ (slice_index_or columns column unknown_column).first + slice_index_or (sums k) column 0
  offset-is k column less = omega (arith, first-is column less, sum-is k column less)

  low-first : (firsts : List ℕ) (column : ℕ) → AllByRecursion (λ first. first ≤ 2 ^ 60) firsts → slice_index_or firsts column 0 ≤ 2 ^ 60
  low-first [] column all = omega arith
  low-first (first ∷ firsts) zero all = all.0
  low-first (first ∷ firsts) (suc column) all = low-first firsts column all.1

  -- one cluster
  module _ (k : ℕ) (low : from ≤ k) (high : k < from + count) where
    abbrev summary : ClusterSummary
    summary = (listed_cluster book k).summary

    there : k < length (book_clusters book)
    there = omega (arith, high, h.inside)

    kept : IsKeptCluster (length book.firsts) (cluster_at book k)
    kept = h.kept.clusters k there

    abbrev pages : ℕ → List PageMeta
    pages column = slice_index_or (cluster_at book k).meta.pages column []

    paged : (lists : List (List PageMeta)) (column : ℕ) → AllByRecursion (λ l. AllByRecursion (IsPageOf (cluster_at book k).meta) l) lists
        → AllByRecursion (IsPageOf (cluster_at book k).meta) (slice_index_or lists column [])
    paged [] column all = tt
    paged (l ∷ lists) zero all = all.0
    paged (l ∷ lists) (suc column) all = paged lists column all.1

    most-listed : length (cluster_at book k).meta.pages ≤ length columns
    most-listed = let lists = kept.lists in omega (arith, lists, as_many)

    column-listed : (column : ℕ) → column < length (cluster_at book k).meta.pages
        → IsListedColumn summary columns (sums k) column (listed_column book k column)
    column-listed column listed =
        let less : column < length columns = omega (arith, listed, most-listed) in
        let c = slice_index_or columns column unknown_column in
        let payload = payload_place (cluster_at book k) in
        let is = h.each k column low high listed in
        let counted = items-counted payload (pages column) in
        let offset = offset-is k column less in
        let sound = column-sound summary c (slice_index_or (sums k) column 0) (map (page_item payload) (pages column)) is.begun
        (λ p. counted ∙ is.each p)
        (λ p n. none-left payload (pages column) is.filled (is.each p ∙ n)) in
        record {
          items = items-told (cluster_at book k).meta payload (pages column) (omega (arith, kept.low, kept.short)) kept.short
              (paged (cluster_at book k).meta.pages column kept.paged.each) is.filled;
          few = omega (
            arith,
            length-map (pages column) (page_item payload),
            few-pages (cluster_at book k).meta column
                kept.paged kept.short,
          );
          offset = omega (arith, low-first book.firsts column h.kept.firsts, elements-fit book k column h.kept);
          sound = subst (λ (n : ℕ). is_sound_column summary c (slice_index_or (sums k) column 0)
              (map (page_item payload) (pages column)) n ≡ true) (sym offset) sound;
        }

    columns-listed : (column n : ℕ) → column + n ≤ length (cluster_at book k).meta.pages
        → AreListedColumns summary columns (sums k) column (map (listed_column book k) (range_with_len column n))
    columns-listed column zero most = tt
    columns-listed column (suc n) most =
        let next : column + 1 ≡ suc column = omega arith in (
          column-listed column (omega (arith, most)),
          subst (λ (j : ℕ). AreListedColumns summary columns (sums k) j
              (map (listed_column book k) (range_with_len (column + 1) n))) next (columns-listed (column + 1) n (omega (arith, most))),
        )

    lists-long : length (listed_cluster book k).columns ≡ length (cluster_at book k).meta.pages
    lists-long = length-map-range_with_len (listed_column book k) 0 (length (cluster_at book k).meta.pages)

    others-sound : (column : ℕ) → length (listed_cluster book k).columns ≤ column → column < length columns
        → is_sound_column summary (slice_index_or columns column unknown_column) 0 [] 0 ≡ true
    others-sound column past less =
        unlisted-sound summary (slice_index_or columns column unknown_column)
        (h.others k column low high (omega (arith, past, lists-long)) less)

    cluster-listed : IsListedCluster columns k (first_entry book k) (sums k) (listed_cluster book k)
    cluster-listed =
        let entries = kept.paged.entries in
        record {
          numbered = refl;
          begins = refl;
          low = omega (arith, entries-fit book k h.kept);
          size = omega (arith, entries, kept.short);
          listed = columns-listed 0 (length (cluster_at book k).meta.pages) (omega arith);
          few = omega (arith, lists-long, most-listed);
          unlisted = list_all-drop (λ c. is_sound_column summary c 0 [] 0) columns (length (listed_cluster book k).columns)
              unknown_column others-sound;
        }

    -- the elements with this cluster: of columns that it doesn't list none come
    none-more : (column n : ℕ) → length (cluster_at book k).meta.pages ≤ column
        → map (cells k) (range_with_len column n) ≡ map (cells (k + 1)) (range_with_len column n)
    none-more column zero past = refl
    none-more column (suc n) past =
        let none = none-past (cluster_at book k).meta.pages column past in
        let same : cells k column ≡ cells (k + 1) column = omega (arith, none, elements-more book k column there) in
        ap (λ (m : ℕ). m ∷ map (cells k) (range_with_len (column + 1) n)) same
        ∙ ap (λ (l : List ℕ). cells (k + 1) column ∷ l) (none-more (column + 1) n (omega (arith, past)))

    more-each : (column n m : ℕ) → n ≤ m → column + n ≡ length (cluster_at book k).meta.pages
        → with_listed (map (cells k) (range_with_len column m)) (map (listed_column book k) (range_with_len column n))
        ≡ map (cells (k + 1)) (range_with_len column m)
    more-each column zero m most all = none-more column m (omega (arith, all))
    more-each column (suc n) zero most all = absurd (omega (arith, most))
    more-each column (suc n) (suc m) most all =
        let counted = items-counted (payload_place (cluster_at book k)) (pages column) in
        let next = elements-more book k column there in
        let fits = elements-fit book (k + 1) column h.kept in
        let sum : min (cells k column + paged_elements (listed_column book k column).pages) (2 ^ 64 - 1) ≡ cells (k + 1) column =
        omega (arith, counted, next, fits) in
        ap (λ (e : ℕ). e ∷ with_listed (map (cells k) (range_with_len (column + 1) m))
        (map (listed_column book k) (range_with_len (column + 1) n))) sum
        ∙ ap (λ (l : List ℕ). cells (k + 1) column ∷ l) (more-each (column + 1) n m (omega (arith, most)) (omega (arith, all)))

    sums-more : with_listed (sums k) (listed_cluster book k).columns ≡ sums (k + 1)
    sums-more = more-each 0 (length (cluster_at book k).meta.pages) (length book.firsts) (omega (arith, most-listed, as_many)) (omega arith)

  -- so many clusters
  clusters-listed : (k n : ℕ) → from ≤ k → k + n ≤ from + count
      → AreListedClusters columns k (first_entry book k) (sums k) (listed_clusters book k n)
  clusters-listed k zero low high = tt
  clusters-listed k (suc n) low high =
      let less : k < from + count = omega (arith, high) in
      let entries = entries-more book k (there k low less) in (
        cluster-listed k low less,
        subst (λ (e : ℕ). AreListedClusters columns (k + 1) e (with_listed (sums k) (listed_cluster book k).columns)
            (listed_clusters book (k + 1) n)) entries
            (subst (λ (es : List ℕ). AreListedClusters columns (k + 1) (first_entry book (k + 1)) es
            (listed_clusters book (k + 1) n)) (sym (sums-more k low less))
            (clusters-listed (k + 1) n (omega (arith, low)) (omega (arith, high)))),
      )

  entries-listed : (k n : ℕ) → from ≤ k → k + n ≤ from + count → first_entry book k + listed_entries (listed_clusters book k n)
      ≡ first_entry book (k + n)
  entries-listed k zero low high =
      let same : k ≡ k + 0 = omega arith in
      let last : first_entry book k ≡ first_entry book (k + 0) = ap (λ (j : ℕ). first_entry book j) same in
      omega (arith, last)
  entries-listed k (suc n) low high =
      let entries = entries-more book k (there k low (omega (arith, high))) in
      let others = entries-listed (k + 1) n (omega (arith, low)) (omega (arith, high)) in
      let same : k + 1 + n ≡ k + suc n = omega arith in
      let last : first_entry book (k + 1 + n) ≡ first_entry book (k + suc n) = ap (λ (j : ℕ). first_entry book j) same in
      omega (arith, entries, others, last)

  sums-listed : (k n : ℕ) → from ≤ k → k + n ≤ from + count → with_all_listed (sums k) (listed_clusters book k n) ≡ sums (k + n)
  sums-listed k zero low high =
      let same : k ≡ k + 0 = omega arith in
      ap (λ (j : ℕ). sums j) same
  sums-listed k (suc n) low high =
      let same : k + 1 + n ≡ k + suc n = omega arith in
      ap (λ (es : List ℕ). with_all_listed es (listed_clusters book (k + 1) n)) (sums-more k low (omega (arith, high)))
      ∙ (sums-listed (k + 1) n (omega (arith, low)) (omega (arith, high)) ∙ ap (λ (j : ℕ). sums j) same)

  pub book-reads : (sum : ℕ) (g : Group) (place : ℕ) (rest : List ℕ) → sum < 2 ^ 64 → g.clusters ≡ count
      → first_entry book from + g.span ≡ first_entry book (from + count)
      → length (page_list_text sum (listed_clusters book from count)) < 2 ^ 63
      → page_list_at sum g columns (progress_before book from)
      (standing place (page_list_text sum (listed_clusters book from count) ++ rest))
      ≡ Ok (
        cluster_lists_from (first_cluster_place place (listed_clusters book from count)) (listed_clusters book from count),
        progress_before book (from + count),
      )
  book-reads sum g place rest fits clusters span short =
      let ws = listed_clusters book from count in
      let long : length ws ≡ count = length-map-range_with_len (listed_cluster book) from count in
      let entries = entries-listed from count (omega arith) (omega arith) in
      let few : length columns < 2 ^ 32 = omega (arith, as_many, h.kept.columns) in
      let counted : with_group (progress_before book from) g (with_all_listed (sums from) ws) ≡ progress_before book (from + count) =
      ap (λ (n : ℕ). record {
        clusters = from + n;
        entries = first_entry book from + g.span;
        elements = with_all_listed (sums from) ws;
      }) clusters
      ∙ (ap (λ (n : ℕ). record { clusters = from + count; entries = n; elements = with_all_listed (sums from) ws }) span
      ∙ ap (λ (l : List ℕ). record {
        clusters = from + count;
        entries = first_entry book (from + count);
        elements = l;
      }) (sums-listed from count (omega arith) (omega arith))) in
      page-list-reads sum g columns (progress_before book from) ws place rest fits few
      (omega (arith, long, h.inside, h.kept.few, h.kept.fewer))
      (clusters ∙ sym long) (omega (arith, entries, span))
      (clusters-listed from count (omega arith) (omega arith)) short
      ∙ ap (λ (p : ProgressCounts). Ok (cluster_lists_from (first_cluster_place place ws) ws, p)) counted
