-- What is kept of chunks is counted, and passes the limits of the whole.
use Rattle.std.proofs.Common.{◌≡◌, ◌∙◌, inl, inr, ap, sym, subst, refl, ℕ, zero, suc, ◌+◌, ◌<◌, ◌≤◌, Bool, true, false, List, [], ◌∷◌}
use Rattle.std.proofs.Common.{◌++◌, length, take, drop, Some, arith}
use Rattle.std.specs.Prelude.{IsPermutation}
use Rattle.std.specs.Int.{div_ceil}
use Rattle.std.specs.List.{AllByRecursion, AllZip}
use Rattle.std.proofs.lemmas.List.{length-take, length-map, take-map, drop-map}
use Rattle.std.proofs.lemmas.List.Sorted.{IsPermutation-trans}
use Rattle.std.proofs.lemmas.List.Sorted.{length_permutation}
use Rattle.nt_types.specs.ShapeData.{MemberData}
use Rattle.nt_types.specs.TreeData.{TreesData}
use Rattle.nt_grammar.specs.Table.{Table}
use Rattle.nt_machine.specs.History.{Cluster, ranges_of}
use Rattle.nt_machine.specs.Legal.{end_after}
use Rattle.nt_book.specs.declared.meta.ClusterMeta.{ClusterMeta}
use Rattle.nt_book.specs.declared.params.Params.{Params}
use Rattle.nt_book.specs.declared.limits.LimitError.{LimitError}
use Rattle.nt_book.specs.declared.limits.LimitError.TheVariants as limit
use Rattle.nt_book.specs.Books.{BookData, book_clusters}
use Rattle.nt_pagelists.specs.Blobs.{blob_len}
use Rattle.nt_layout.specs.Headers.{header_sum}
use Rattle.nt_pagelists.specs.Objects.{ClusterSpan, list_len}
use Rattle.nt_layout.specs.Groups.{PlacedList, places_beside, places_behind}
use Rattle.nt_layout.specs.Arranged.{lists_after}
use Rattle.nt_layout.specs.Finished.{list_places, spans, footer_object, file_len}
use Rattle.nt_finished.proofs.Spans.{spans_in_order}
use Rattle.nt_close.specs.Passing.{passed_by_close}
use Rattle.nt_dealing.specs.Texts.{joined_chunks, chunks_of, all_chunks}
use Rattle.nt_dealing.specs.Lengths.{page_list_len, group_count, footer_len, whole_len}
use Rattle.nt_dealing.specs.Limits.{IsKeptOf, AreKeptOf, IsCountedOf, IsBlobLen, of_page_list, of_footer}
use Rattle.nt_dealing.specs.Limits.{IsOver, file_passed}
use Rattle.nt_store.specs.Laws.{HoldsChunks, PassedAreOver}
use Rattle.nt_store.proofs.Whole.{BooksAreOf, book_of}
use Rattle.nt_store.proofs.Passing.{metas, ListsAreAsLong, FootersAreAsLong, FilesAreAsLong, DealtAreAll, piece_apart, zip_take, zip_drop}
use Rattle.nt_store.proofs.Passing.{inside, small, blobs_or, ends, Names, range_named, file_named, blob_over}

-- what is kept of chunks is counted
counted : (t : Table) (page : ℕ) (xs : List (List TreesData)) (ms : List ClusterMeta) → AreKeptOf t page xs ms
    → AllZip (IsCountedOf t page) xs ms
counted t page [] [] kept = tt
counted t page [] (m ∷ ms) kept = absurd kept
counted t page (x ∷ xs) [] kept = absurd kept
counted t page (x ∷ xs) (m ∷ ms) kept = (inl kept.0, counted t page xs ms kept.1)

-- what holds of all groups holds of those whose page lists are left, beside the clusters
all-left : (P : ClusterSpan → Type 0) (book : BookData) (k : ℕ) (ss : List ClusterSpan) → AllByRecursion P ss
    → AllByRecursion (λ (l : PlacedList). P l.span) (drop k (places_beside book ss))
all-left P book zero [] all = tt
all-left P book zero (s ∷ ss) all = (all.0, all-left P book zero ss all.1)
all-left P book (suc k) [] all = tt
all-left P book (suc k) (s ∷ ss) all = all-left P book k ss all.1

-- and behind all ranges
all-behind : (P : ClusterSpan → Type 0) (sum : ℕ) (book : BookData) (place : ℕ) (ss : List ClusterSpan) → AllByRecursion P ss
    → AllByRecursion (λ (l : PlacedList). P l.span) (places_behind sum book place ss)
all-behind P sum book place [] all = tt
all-behind P sum book place (s ∷ ss) all = (all.0, all-behind P sum book (place + list_len sum book s) ss all.1)

-- wherever they stand
all-after : (P : ClusterSpan → Type 0) (staged : Bool) (t : Table) (book : BookData) (most : ℕ) → AllByRecursion P (spans book most)
    → AllByRecursion (λ (l : PlacedList). P l.span) (lists_after staged t book most)
all-after P true t book most all =
    all-behind P (header_sum t) book (end_after book.begin (ranges_of book.history)) (spans book most) all
all-after P false t book most all = all-left P book (length book.lists) (spans book most) all

module _ (lists : ListsAreAsLong) (footers : FootersAreAsLong) (files : FilesAreAsLong) (dealt_all : DealtAreAll) (books : BooksAreOf) where
  module _ (fields : List MemberData) (p : Params) (texts : List (List ℕ)) (t : Table) (book : BookData) (ranges : List (List ℕ)) (holds
      : HoldsChunks fields p texts t book ranges) where
    abbrev chunks : List (List TreesData)
    chunks = all_chunks p.cluster fields texts

    all-dealt : IsPermutation holds.are.dealt (joined_chunks (chunks_of p.cluster fields texts)) × AreKeptOf t p.page holds.are.dealt (metas
        (book_clusters book))
        × ((ms : List ClusterMeta) × AreKeptOf t p.page (joined_chunks (chunks_of p.cluster fields texts)) ms × (whole_len t p.group ms ≡
        whole_len t p.group (metas (book_clusters book))))
    all-dealt = dealt_all p.staged t p.page p.group (chunks_of p.cluster fields texts) book ranges holds.are holds.kept

    list_written : (s : ClusterSpan) → s.from + s.count ≤ length (book_clusters book) → s.count ≤ p.group
        → IsBlobLen t p chunks (list_len (header_sum t) book s)
    list_written s within few =
        let dealt = holds.are.dealt in
        let ms = metas (book_clusters book) in
        let same : take s.count (drop s.from ms) ≡ metas (take s.count (drop s.from (book_clusters book))) =
        ap (λ (l : List ClusterMeta). take s.count l) (drop-map (λ (c : Cluster ClusterMeta). c.meta) s.from (book_clusters book))
        ∙ take-map (λ (c : Cluster ClusterMeta). c.meta) s.count (drop s.from (book_clusters book)) in
        of_page_list (take s.count (drop s.from dealt)) (take s.from dealt ++ drop s.count (drop s.from dealt)) (take s.count (drop
        s.from ms))
        (IsPermutation-trans _ dealt chunks (piece_apart s.from s.count dealt) all-dealt.0)
        (omega (arith, few, length-take s.count (drop s.from dealt)))
        (zip_take (IsKeptOf t p.page) s.count (drop s.from dealt) (drop s.from ms) (zip_drop (IsKeptOf t p.page) s.from dealt ms
        all-dealt.1))
        (lists (header_sum t) book s within ∙ ap page_list_len (sym same))

    counts : length (book_clusters book) ≡ length chunks
    counts =
        let contexts = length-map (book_clusters book) (λ (c : Cluster ClusterMeta). c.context) in
        omega (arith, length_permutation holds.are.dealt chunks all-dealt.0, holds.are.is_deal.long, contexts)

    footer_written : IsBlobLen t p chunks (blob_len (length (footer_object t book (list_places p.staged t book p.group))))
    footer_written = of_footer (footers p.staged t book p.group ∙ ap (λ (n : ℕ). footer_len t (group_count p.group n)) counts)

    closed_over : (e : LimitError) (reached most : ℕ) → passed_by_close p t book ≡ Some e → Names e reached most
        → IsOver t p chunks reached most
    closed_over e reached most passed names =
        let n = length (book_clusters book) in
        let foot = blob_len (length (footer_object t book (list_places p.staged t book p.group))) in
        let some : 0 < p.group = omega (arith, p.group_range.0) in
        elim (blobs_or (λ (l : PlacedList). list_len (header_sum t) book l.span) (λ (l : PlacedList). l.span.from + l.span.count ≤ n)
        (λ (l : PlacedList). l.span.count ≤ p.group) p.limits (lists_after p.staged t book p.group) (foot ∷ [])
        (file_len t book (list_places p.staged t book p.group)) e
        (all-after (λ (s : ClusterSpan). s.from + s.count ≤ n) p.staged t book p.group
        (inside 0 n (spans book p.group) (spans_in_order p.group n some)))
        (all-after (λ (s : ClusterSpan). s.count ≤ p.group) p.staged t book p.group
        (small p.group n 0 (div_ceil n p.group))) passed) [
          | inl list ↦ blob_over t p chunks reached most _ (list_written list.x.span list.first list.second) list.above
              (range_named e reached most _ p.limits.range names list.is)
          | inr rest ↦ elim (blobs_or (λ (m : ℕ). m) (λ (m : ℕ). m ≡ foot) (λ (m : ℕ). Unit {0}) p.limits (foot ∷ []) [] (file_len t book
              (list_places p.staged t book p.group)) e (refl, tt) (tt, tt) rest) [
                | inl blob ↦ blob_over t p chunks reached most blob.x (subst (IsBlobLen t p chunks) (sym blob.first) footer_written)
                    blob.above (range_named e reached most blob.x p.limits.range names blob.is)
                | inr last ↦
                    let len = file_len t book (list_places p.staged t book p.group) in
                    let end = ends p.limits len e last in
                    let named = file_named e reached most len p.limits.file names end.1 in
                    let long = files p.staged t book p.group holds.are.all (book_of books fields p texts t book ranges holds) some in
                    let ms = metas (book_clusters book) in
                    file_passed ms
                    (record {
                      order = holds.are.dealt;
                      permuted = all-dealt.0;
                      counted = counted t p.page holds.are.dealt ms all-dealt.1;
                    })
                    (omega (arith, named.0, long)) named.1 (omega (arith, end.0, named.0, named.1))
              ]
        ]

  pub closing_over : PassedAreOver
  closing_over fields p texts t book ranges reached most holds (inl is) =
      closed_over fields p texts t book ranges holds (limit.RangeTooLarge reached most) reached most is (inl refl)
  closing_over fields p texts t book ranges reached most holds (inr is) =
      closed_over fields p texts t book ranges holds (limit.FileTooLarge reached most) reached most is (inr refl)
