-- The limits that the clusters of a sequential writer pass, or don't.
use Rattle.std.proofs.Common.{◌≡◌, ◌∙◌, sym, ap, subst, ℕ, zero, suc, ◌+◌, ◌*◌, ◌-◌, ◌<◌, ◌≤◌, min, List, [], ◌∷◌, length}
use Rattle.std.proofs.Common.{take, drop, map, Some, refl, inl, inr, false, arith}
use Rattle.std.specs.Prelude.{slice_index_or}
use Rattle.std.specs.Int.{div_ceil}
use Rattle.std.specs.List.{AllByRecursion, range_with_len}
use Rattle.std.proofs.Math.Nat.{mul-le-mul_right}
use Rattle.std.proofs.lemmas.Grind.{div_ceil_times}
use Rattle.std.proofs.lemmas.List.{length-map, length-drop, take-map, drop-map, take_min}
use Rattle.nt_outside.specs.Disk.{DiskState}
use Rattle.nt_grammar.specs.Table.{Table}
use Rattle.nt_machine.specs.History.{Cluster}
use Rattle.nt_book.specs.declared.meta.ClusterMeta.{ClusterMeta}
use Rattle.nt_book.specs.declared.params.Params.{Params}
use Rattle.nt_book.specs.declared.limits.Limits.{Limits}
use Rattle.nt_book.specs.declared.limits.LimitError.{LimitError}
use Rattle.nt_book.specs.Books.{BookData, book_clusters, no_cluster}
use Rattle.nt_book.specs.Kept.{IsBookKept}
use Rattle.nt_pagelists.specs.Blobs.{blob_len}
use Rattle.nt_pagelists.specs.Objects.{ClusterSpan, cluster_span, list_len}
use Rattle.nt_layout.specs.Headers.{header_sum, clusters_place}
use Rattle.nt_layout.specs.Beside.{lists_left}
use Rattle.nt_layout.specs.Finished.{list_places, spans, footer_object, file_len}
use Rattle.nt_layout.specs.Groups.{PlacedList, places_beside}
use Rattle.nt_close.specs.Filled.{AreListsNoted}
use Rattle.nt_close.specs.Passing.{passed_by_close}
use Rattle.nt_dealing.specs.Lengths.{page_list_len, group_count, footer_len}
use Rattle.nt_dealing.proofs.Lengths.{length-list_object}
use Rattle.nt_dealing.proofs.Files.{length-footer_object, length-file_of}
use Rattle.nt_merge_limits.specs.Limits.{IsBookBeside}
use Rattle.nt_merge_limits.proofs.Lists.{times-suc}
use Rattle.nt_seq.specs.Standing.{IsShortCluster, IsWriting}
use Rattle.nt_seq.specs.Writer.{SeqState}
use Rattle.nt_seq.proofs.Flat.{params-flat, listed-flat, passed-flat}
use Rattle.nt_store.proofs.Passing.{blobs_or, ends, Names, range_named, file_named}
use Rattle.nt_script.specs.Limits.{AreListsBetween, next_list_len, clusters_end, StandsWithin, IsOverEnd, list_passed, footer_passed}
use Rattle.nt_script.specs.Limits.{end_passed}
use Rattle.nt_script.specs.Taking.{metas_of}
use Rattle.nt_script.proofs.Between.{end-between, between, short-between}

-- ---- what is written

-- the book of a writer that is alive, with the page lists beside its clusters
pub beside-writing : {D : Type 0} (state : D → DiskState) (w : SeqState D) → IsWriting state w → IsBookKept w.book
    → IsBookBeside w.table w.params w.book
beside-writing state w is kept = record {
  kept = kept;
  begin = is.closable.begin;
  limits = is.limits;
  beside = listed-flat w.table w.params w.book is.closable.noted is.not_staged is.untorn;
}

-- none of them is longer than a range may get
metas-short : (limits : Limits) (cs : List (Cluster ClusterMeta))
    → ((k : ℕ) → k < length cs → (slice_index_or cs k no_cluster).len ≡ (slice_index_or cs k no_cluster).meta.len)
    → AllByRecursion (IsShortCluster limits) cs
    → AllByRecursion (λ (m : ClusterMeta). m.len ≤ limits.range) (map (λ (c : Cluster ClusterMeta). c.meta) cs)
metas-short limits [] lens short = tt
metas-short limits (c ∷ cs) lens short =
    let others = metas-short limits cs (λ k less. lens (suc k) (omega (arith, less))) short.1 in
    (subst (λ (n : ℕ). n ≤ limits.range) (lens 0 (omega arith)) short.0, others)

-- what a writer that is alive has written stands within its limits, with as many page lists as its book notes
pub stands_as : {D : Type 0} (state : D → DiskState) (w : SeqState D) (ms : List ClusterMeta) → metas_of w.book ≡ ms → IsWriting state w
    → IsBookKept w.book → (s : StandsWithin w.table w.params ms) × (s.lists ≡ length w.book.lists)
stands_as state w ms same is kept =
    let book = beside-writing state w is kept in
    let most = w.params.group in
    let lists = length w.book.lists in
    let ends : clusters_end w.table most (metas_of w.book) lists ≤ w.params.limits.file =
    omega (arith, is.ends, end-between w.table w.params w.book book) in
    let few : length (metas_of w.book) ≤ w.params.limits.clusters =
    omega (arith, is.count, length-map (book_clusters w.book) (λ (c : Cluster ClusterMeta). c.meta)) in (
      record {
        header = is.within;
        short = subst (λ (l : List ClusterMeta). AllByRecursion (λ (m : ClusterMeta). m.len ≤ w.params.limits.range) l) same
            (metas-short w.params.limits (book_clusters w.book) (λ k less. (kept.clusters k less).len) is.short);
        lists = lists;
        between = subst (λ (l : List ClusterMeta). AreListsBetween most lists (length l)) same (between w.table w.params w.book book);
        lists_short = λ k less. subst (λ (l : List ClusterMeta). next_list_len most l k ≤ w.params.limits.range) same
            (short-between w.table w.params w.book book is.closable.noted.short k less);
        end = subst (λ (l : List ClusterMeta). clusters_end w.table most l lists ≤ w.params.limits.file) same ends;
        few = subst (λ (l : List ClusterMeta). length l ≤ w.params.limits.clusters) same few;
      },
      refl,
    )

pub stands_within : {D : Type 0} (state : D → DiskState) (w : SeqState D) → IsWriting state w → IsBookKept w.book
    → StandsWithin w.table w.params (metas_of w.book)
stands_within state w is kept = (stands_as state w (metas_of w.book) refl is kept).0

-- ---- what is written behind it

all-placed : (P : ClusterSpan → Type 0) (book : BookData) (ss : List ClusterSpan) → AllByRecursion P ss
    → AllByRecursion (λ (l : PlacedList). P l.span) (places_beside book ss)
all-placed P book [] all = tt
all-placed P book (s ∷ ss) all = (all.0, all-placed P book ss all.1)

all-drop : (P : PlacedList → Type 0) (n : ℕ) (ls : List PlacedList) → AllByRecursion P ls → AllByRecursion P (drop n ls)
all-drop P zero ls all = all
all-drop P (suc n) [] all = tt
all-drop P (suc n) (l ∷ ls) all = all-drop P n ls all.1

module _ (t : Table) (p : Params) (book : BookData) (noted : AreListsNoted t p book) (flat : book.staged ≡ false) (kept : IsBookKept book)
    (begin : book.begin ≡ clusters_place t) where
  abbrev book_metas : List ClusterMeta
  book_metas = metas_of book

  counts : length book_metas ≡ length (book_clusters book)
  counts = length-map (book_clusters book) (λ (c : Cluster ClusterMeta). c.meta)

  abbrev n : ℕ
  n = length (book_clusters book)

  some-group : 0 < p.group
  some-group = omega (arith, p.group_range.0)

  -- how long the page list of a group is
  group-len : (i : ℕ) → i < div_ceil n p.group
      → list_len (header_sum t) book (cluster_span p.group n i) ≡ next_list_len p.group book_metas i
  group-len i less =
      let next : suc i * p.group ≤ div_ceil n p.group * p.group = mul-le-mul_right p.group (omega (arith, less)) in
      let low : i * p.group < n = omega (arith, next, (div_ceil_times n p.group some-group).1, times-suc i p.group) in
      let meta : Cluster ClusterMeta → ClusterMeta = λ c. c.meta in
      let count : ℕ = min p.group (n - i * p.group) in
      let rest : length (drop (i * p.group) book_metas) ≡ n - i * p.group =
      length-drop (i * p.group) book_metas ∙ ap (λ (k : ℕ). k - i * p.group) counts in
      length-list_object book (header_sum t) (cluster_span p.group n i) (omega (arith, low))
      ∙ ap page_list_len
      (sym (ap (λ (l : List ClusterMeta). take count l) (drop-map meta (i * p.group) (book_clusters book))
      ∙ take-map meta count (drop (i * p.group) (book_clusters book)))
      ∙ (ap (λ (k : ℕ). take (min p.group k) (drop (i * p.group) book_metas)) (sym rest)
      ∙ take_min p.group (drop (i * p.group) book_metas)))

  -- these are the clusters of a group
  abbrev IsGroup : ClusterSpan → Type 0
  IsGroup s = (i : ℕ) × (i < div_ceil n p.group) × (s ≡ cluster_span p.group n i)

  groups-from : (i m : ℕ) → i + m ≤ div_ceil n p.group → AllByRecursion IsGroup (map (cluster_span p.group n) (range_with_len i m))
  groups-from i zero within = tt
  groups-from i (suc m) within = ((i, omega (arith, within), refl), groups-from (i + 1) m (omega (arith, within)))

  list_over : (reached most : ℕ) (s : ClusterSpan) → IsGroup s → p.limits.range < list_len (header_sum t) book s
      → (reached ≡ list_len (header_sum t) book s) × (most ≡ p.limits.range) → IsOverEnd t p book_metas reached most
  list_over reached most s (i, less, same) above (is, limit-is) =
      list_passed i (subst (λ (k : ℕ). i < group_count p.group k) (sym counts) less)
      (is ∙ (ap (list_len (header_sum t) book) same ∙ group-len i less)) limit-is (omega (arith, above, is, limit-is))

  abbrev foot : ℕ
  foot = blob_len (length (footer_object t book (list_places false t book p.group)))

  foot-is : foot ≡ footer_len t (group_count p.group (length book_metas))
  foot-is = length-footer_object false t book p.group ∙ ap (λ (n : ℕ). footer_len t (group_count p.group n)) (sym counts)

  footer_over : (reached most len : ℕ) → len ≡ foot → p.limits.range < len → (reached ≡ len) × (most ≡ p.limits.range)
      → IsOverEnd t p book_metas reached most
  footer_over reached most len same above (is, limit-is) =
      footer_passed (is ∙ (same ∙ foot-is)) limit-is (omega (arith, above, is, limit-is))

  -- the page lists that are left are of groups
  left-all : (P : ClusterSpan → Type 0) → AllByRecursion P (spans book p.group)
      → AllByRecursion (λ (l : PlacedList). P l.span) (lists_left t book p.group)
  left-all P all =
      all-drop (λ (l : PlacedList). P l.span) (length book.lists) (places_beside book (spans book p.group))
      (all-placed P book (spans book p.group) all)

  -- a limit that the closing passes
  pub closed_over : (e : LimitError) (reached most : ℕ) → passed_by_close p t book ≡ Some e → Names e reached most
      → IsOverEnd t p book_metas reached most
  closed_over e reached most passed names =
      let groups : AllByRecursion (λ (l : PlacedList). IsGroup l.span) (lists_left t book p.group) =
      left-all IsGroup (groups-from 0 (div_ceil n p.group) (omega arith)) in
      let end = file_len t book (list_places false t book p.group) in
      elim (blobs_or (λ (l : PlacedList). list_len (header_sum t) book l.span) (λ (l : PlacedList). IsGroup l.span)
      (λ (l : PlacedList). IsGroup l.span) p.limits (lists_left t book p.group) (foot ∷ []) end e groups groups
      (sym (passed-flat t p book (params-flat t p book noted flat)) ∙ passed)) [
        | inl list ↦ list_over reached most list.x.span list.first list.above
            (range_named e reached most _ p.limits.range names list.is)
        | inr rest ↦ elim (blobs_or (λ (m : ℕ). m) (λ (m : ℕ). m ≡ foot) (λ (m : ℕ). Unit {0}) p.limits (foot ∷ []) [] end e
            (refl, tt) (tt, tt) rest) [
              | inl blob ↦ footer_over reached most blob.x blob.first blob.above
                  (range_named e reached most blob.x p.limits.range names blob.is)
              | inr last ↦
                  let over = ends p.limits end e last in
                  let named = file_named e reached most end p.limits.file names over.1 in
                  end_passed (named.0 ∙ length-file_of false t book p.group flat kept begin some-group) named.1
                  (omega (arith, over.0, named.0, named.1))
            ]
      ]
