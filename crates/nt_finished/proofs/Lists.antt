-- The page lists of a book are read as its clusters.
use Rattle.std.proofs.Common.{◌≡◌, ℕ, zero, suc, ◌+◌, ◌<◌, ◌≤◌, ◌^◌, List, [], ◌∷◌, ◌++◌, map, length, replicate, Ok, refl, sym, ap, subst}
use Rattle.std.proofs.Common.{◌∙◌, append-nil, arith}
use Rattle.std.specs.Prelude.{slice_index_or}
use Rattle.std.specs.List.{AllByRecursion, range_with_len}
use Rattle.std.proofs.lemmas.List.FromFn.{length-map-range_with_len, get_or-map-range_with_len}
use Rattle.nt_format.specs.Reading.{standing}
use Rattle.nt_format.specs.Envelopes.{envelope}
use Rattle.nt_book.specs.Books.{BookData, book_clusters, cluster_at, first_entry, elements_before}
use Rattle.nt_pagelists.specs.declared.column.KnownColumn.{KnownColumn}
use Rattle.nt_pagelists.specs.declared.group.Group.{Group}
use Rattle.nt_pagelists.specs.declared.cluster.ClusterList.{ClusterList}
use Rattle.nt_pagelists.specs.PageLists.{ProgressCounts, page_list_at}
use Rattle.nt_pagelists.specs.Writing.{ListedColumn, column_list_text, cluster_list_text, page_list_text}
use Rattle.nt_pagelists.specs.ReadingBack.{column_lists_from, cluster_list_from, cluster_lists_from, first_cluster_place}
use Rattle.nt_pagelists.specs.Books.{listed_column, listed_cluster, listed_clusters, progress_before}
use Rattle.nt_pagelists.specs.SoundBooks.{HasSoundClusters}
use Rattle.nt_pagelists.proofs.BooksBack.{book-reads}
use Rattle.nt_file_meaning.specs.Envelopes.{Sealed, payload_start, sealed, envelope_of}
use Rattle.nt_pagelists.specs.Objects.{page_list_kind}
use Rattle.nt_file_meaning.specs.Outlines.{list_block, moved_column, moved_cluster, clusters_of_block, group_clusters, groups_clusters}
use Rattle.nt_file_meaning.specs.Outlines.{no_progress}
use Rattle.nt_file_meaning.specs.Clusters.{no_list}
use Rattle.nt_pagelists.specs.Blobs.{blob, object_place}
use Rattle.nt_pagelists.specs.Objects.{ClusterSpan, list_object, list_len}
use Rattle.nt_layout.specs.Groups.{PlacedList, span_group, list_groups}
use Rattle.nt_finished.specs.Listed.{IsListOf, AreListsOf}
use Rattle.nt_finished.proofs.Standing.{StandsThere, object_stands, length-envelope, opened}
use Rattle.nt_finished.proofs.Spans.{AreInOrder, order-le, group-ends}

-- ---- what is read of clusters

no_column : ListedColumn
no_column = record { offset = 0; pages = [] }

moved-pages : (p place : ℕ) (cs : List ListedColumn) (id : ℕ) → id < length cs
    → (slice_index_or (map (moved_column p) (column_lists_from place cs)) id no_list).pages ≡ (slice_index_or cs id no_column).pages
moved-pages p place [] id less = absurd (omega arith)
moved-pages p place (c ∷ cs) zero less = refl
moved-pages p place (c ∷ cs) (suc id) less = moved-pages p (place + length (column_list_text c)) cs id (omega arith)

length-moved : (p place : ℕ) (cs : List ListedColumn) → length (map (moved_column p) (column_lists_from place cs)) ≡ length cs
length-moved p place [] = refl
length-moved p place (c ∷ cs) = ap suc (length-moved p (place + length (column_list_text c)) cs)

module _ (book : BookData) where
  listed : (p place k : ℕ)
      → IsListOf (first_entry book k) (cluster_at book k) (moved_cluster p (cluster_list_from place (listed_cluster book k)))
  listed p place k =
      record {
        first_is = refl;
        few = omega (
          arith,
          length-moved p (place + 12) (map (listed_column book k) (range_with_len 0 (length (cluster_at book k).meta.pages))),
          long k,
        );
        entries = refl;
        pages = λ id less.
            moved-pages p (place + 12) (map (listed_column book k) (range_with_len 0 (length (cluster_at book k).meta.pages))) id
            (omega (arith, less, long k))
            ∙ ap (λ (c : ListedColumn). c.pages)
            (get_or-map-range_with_len (listed_column book k) 0 (length (cluster_at book k).meta.pages) id id no_column less (omega arith));
      }
    where
      long : (k : ℕ)
          → length (map (listed_column book k) (range_with_len 0 (length (cluster_at book k).meta.pages))) ≡ length
          (cluster_at book k).meta.pages
      long k = length-map-range_with_len (listed_column book k) 0 (length (cluster_at book k).meta.pages)

  lists-are : (p place k n : ℕ) → AreListsOf book k (k + n) (map (moved_cluster p) (cluster_lists_from place (listed_clusters book k n)))
  lists-are p place k zero = omega arith
  lists-are p place k (suc n) =
      let same : k + 1 + n ≡ k + suc n = omega arith in (
        listed p place k,
        subst (λ (j : ℕ). AreListsOf book (k + 1) j
            (map (moved_cluster p) (cluster_lists_from (place + length (cluster_list_text (listed_cluster book k)))
            (listed_clusters book (k + 1) n)))) same
            (lists-are p (place + length (cluster_list_text (listed_cluster book k))) (k + 1) n),
      )

  lists-append : (k m n : ℕ) (ks ls : List ClusterList) → AreListsOf book k m ks → AreListsOf book m n ls → AreListsOf book k n (ks ++ ls)
  lists-append k m n [] ls a b = subst (λ (j : ℕ). AreListsOf book j n ls) (sym a) b
  lists-append k m n (l ∷ ks) ls a b = (a.0, lists-append (k + 1) m n ks ls a.1 b)

-- ---- page lists

pub list_object-is : (sum : ℕ) (book : BookData) (s : ClusterSpan)
    → list_object sum book s ≡ envelope page_list_kind (page_list_text sum (listed_clusters book s.from s.count))
unfolding list_object
list_object-is sum book s = refl

group-chain : (file : List ℕ) (sum : ℕ) (columns : List KnownColumn) (g : Group) (p q : ProgressCounts) (list : Sealed)
    (ks : List ClusterList)
    → envelope_of file page_list_kind (list_block g.link) ≡ Ok list → page_list_at sum g columns p (standing 0 list.payload) ≡ Ok (ks, q)
    → group_clusters file sum columns g p ≡ Ok (clusters_of_block (list_block g.link) ks, q)
unfolding group_clusters
group-chain file sum columns g p q list ks r s = rw (r, s) refl

module _ (file : List ℕ) (sum : ℕ) (columns : List KnownColumn) (book : BookData) (fits : sum < 2 ^ 64)
    (sound : (from count : ℕ) → from + count ≤ length (book_clusters book) → HasSoundClusters columns book from count) where
  -- the clusters of a group, read at a place
  abbrev read_at : ℕ → ClusterSpan → List ClusterList
  read_at place s =
      map (moved_cluster (object_place place + payload_start))
      (cluster_lists_from (first_cluster_place 0 (listed_clusters book s.from s.count)) (listed_clusters book s.from s.count))

  group-reads : (place : ℕ) (s : ClusterSpan) → s.from + s.count ≤ length (book_clusters book) → list_len sum book s ≤ 2 ^ 30
      → StandsThere file place (blob place (list_object sum book s))
      → group_clusters file sum columns (span_group sum book place s) (progress_before book s.from) ≡ Ok
      (read_at place s, progress_before book (s.from + s.count))
  group-reads place s inside short there =
      let long : length (list_object sum book s) ≡ length (page_list_text sum (listed_clusters book s.from s.count)) + 16 =
      ap length (list_object-is sum book s) ∙ length-envelope page_list_kind (page_list_text sum (listed_clusters book s.from s.count)) in
      let opens =
      opened file page_list_kind (page_list_text sum (listed_clusters book s.from s.count)) (list_object sum book s) (object_place place)
      (omega arith) (list_object-is sum book s)
      (omega (arith, short)) (object_stands file (list_object sum book s) place there) in
      let reads = book-reads columns book s.from s.count (sound s.from s.count inside) sum (span_group sum book place s) 0 [] fits refl
      (group-ends sum book place s.from s refl inside) (omega (arith, long, short)) in
      group-chain file sum columns (span_group sum book place s) (progress_before book s.from) (progress_before book (s.from + s.count))
      (sealed page_list_kind (page_list_text sum (listed_clusters book s.from s.count)))
      (cluster_lists_from (first_cluster_place 0 (listed_clusters book s.from s.count)) (listed_clusters book s.from s.count))
      opens
      (ap (λ (l : List ℕ). page_list_at sum (span_group sum book place s) columns (progress_before book s.from) (standing 0 l))
      (sym (append-nil (page_list_text sum (listed_clusters book s.from s.count)))) ∙ reads)

  groups-chain : (g : Group) (gs : List Group) (p q : ProgressCounts) (ks ls : List ClusterList)
      → group_clusters file sum columns g p ≡ Ok (ks, q)
      → groups_clusters file sum columns gs q ≡ Ok ls → groups_clusters file sum columns (g ∷ gs) p ≡ Ok (ks ++ ls)
  groups-chain g gs p q ks ls r s = rw (r, s) refl

  -- the clusters from one on to before another
  pub record AreRead (gs : List Group) (k n : ℕ) : Type 0 where
    pub lists : List ClusterList
    pub reads : groups_clusters file sum columns gs (progress_before book k) ≡ Ok lists
    pub are : AreListsOf book k n lists

  pub groups_read : (n k : ℕ) (ls : List PlacedList) → n ≤ length (book_clusters book)
      → AreInOrder k n (map (λ (l : PlacedList). l.span) ls)
      → AllByRecursion (λ (l : PlacedList). list_len sum book l.span ≤ 2 ^ 30) ls
      → AllByRecursion (λ (l : PlacedList). StandsThere file l.place (blob l.place (list_object sum book l.span))) ls
      → AreRead (list_groups sum book ls) k n
  groups_read n k [] inside order short there = record { lists = []; reads = refl; are = order }
  groups_read n k (l ∷ ls) inside order short there =
      let s = l.span in
      let place = l.place in
      let last = order-le (k + s.count) n (map (λ (l : PlacedList). l.span) ls) order.2 in
      let from : s.from ≡ k = order.0 in
      let first : group_clusters file sum columns (span_group sum book place s) (progress_before book k) ≡ Ok
      (read_at place s, progress_before book (k + s.count)) =
      ap (λ (j : ℕ). group_clusters file sum columns (span_group sum book place s) (progress_before book j)) (sym from)
      ∙ (group-reads place s (omega (arith, from, last, inside)) short.0 there.0
      ∙ ap (λ (j : ℕ). Ok (read_at place s, progress_before book (j + s.count))) from) in
      let more = groups_read n (k + s.count) ls inside order.2 short.1 there.1 in
      let own : AreListsOf book k (k + s.count) (read_at place s) =
      subst (λ (j : ℕ). AreListsOf book j (j + s.count) (read_at place s)) from
      (lists-are book (object_place place + payload_start) (first_cluster_place 0 (listed_clusters book s.from s.count)) s.from s.count) in
      record {
        lists = read_at place s ++ more.lists;
        reads =
            groups-chain (span_group sum book place s) (list_groups sum book ls) (progress_before book k)
            (progress_before book (k + s.count))
            (read_at place s) more.lists first more.reads;
        are = lists-append book k (k + s.count) n (read_at place s) more.lists own more.are;
      }

-- nothing was read before the first cluster
zeros-from : (k n : ℕ) → replicate n 0 ≡ map (elements_before []) (range_with_len k n)
zeros-from k zero = refl
zeros-from k (suc n) = ap (λ (l : List ℕ). 0 ∷ l) (zeros-from (k + 1) n)

pub progress-none : (book : BookData) (n : ℕ) → n ≡ length book.firsts → no_progress n ≡ progress_before book 0
progress-none book n same =
    ap (λ (l : List ℕ). record { clusters = 0; entries = 0; elements = l })
    (zeros-from 0 n ∙ ap (λ (m : ℕ). map (elements_before []) (range_with_len 0 m)) same)
