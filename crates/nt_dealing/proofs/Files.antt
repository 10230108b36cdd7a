-- How long a finished file is.
use Rattle.std.proofs.Common.{◌≡◌, ℕ, zero, suc, ◌+◌, ◌-◌, ◌*◌, ◌^◌, ◌<◌, ◌≤◌, min, Bool, true, false, List, [], ◌∷◌, ◌++◌, length, map}
use Rattle.std.proofs.Common.{take, drop, refl, sym, ap, ◌∙◌, sum_by, arith}
use Rattle.std.specs.Prelude.{slice_index_or, nat_lt}
use Rattle.std.specs.Int.{w64, to_le_bytes, div_ceil}
use Rattle.std.specs.List.{range_with_len}
use borrow.Author.Tests.{ltb-true, ltb-false}
use Rattle.std.proofs.lemmas.List.{length-append, length-map, length-drop, drop_all, take_min}
use Rattle.std.proofs.lemmas.List.Sums.{sum_by-cons}
use Rattle.std.proofs.lemmas.List.Concat.{length-flat_map}
use Rattle.std.proofs.lemmas.List.FromFn.{length-map-range_with_len, length-range_with_len}
use Rattle.nt_lists.specs.Chunks.{chunk, chunks}
use Rattle.nt_lists.proofs.Groups.{chunks-joined}
use Rattle.nt_format.specs.Frames.{record_frame, list_frame}
use Rattle.nt_grammar.specs.Table.{Table}
use Rattle.nt_machine.specs.History.{Cluster, ranges_of}
use Rattle.nt_machine.specs.Legal.{end_after}
use Rattle.nt_machine.proofs.ClusterSums.{clusters-sum-le}
use Rattle.nt_book.specs.declared.meta.ClusterMeta.{ClusterMeta}
use Rattle.nt_book.specs.Books.{BookData, book_ranges, book_clusters, no_cluster}
use Rattle.nt_book.specs.Kept.{IsBookKept}
use Rattle.nt_file_meaning.specs.Envelopes.{footer_kind}
use Rattle.nt_pagelists.specs.declared.group.Group.{Group}
use Rattle.nt_pagelists.specs.FooterWriting.{group_text, group_texts, extension_text, footer_text}
use Rattle.nt_pagelists.specs.Blobs.{blob_len}
use Rattle.nt_layout.specs.Headers.{header_sum, clusters_place}
use Rattle.nt_pagelists.specs.Objects.{ClusterSpan, cluster_span, group_spans, list_len}
use Rattle.nt_pagelists.proofs.Named.{clusters-unstaged}
use Rattle.nt_layout.specs.Groups.{PlacedList, places_beside, places_behind, list_group}
use Rattle.nt_layout.specs.Finished.{spans, list_places, groups, footer_object, footer_place, anchor_start, file_len}
use Rattle.nt_layout.specs.Laid.{IsBookOf}
use Rattle.nt_dealing.specs.Lengths.{record_len, listed_cluster_len, page_list_len, footer_len, group_count, page_lists_len, whole_len}
use Rattle.nt_dealing.proofs.Lists.{sum_by-joined, sum_by-same, sum_by-each, sum_by-plus, sum_by-mapped}
use Rattle.nt_dealing.proofs.Lengths.{length-record, length-list, length-envelope, length-list_object, length-no_list}

length-group : (g : Group) → length (group_text g) ≡ record_len 40
length-group g = refl

-- the clusters that page lists list, wherever these stand
spans-behind : (sum : ℕ) (book : BookData) (place : ℕ) (ss : List ClusterSpan)
    → map (λ (l : PlacedList). l.span) (places_behind sum book place ss) ≡ ss
spans-behind sum book place [] = refl
spans-behind sum book place (s ∷ ss) =
    ap (λ (l : List ClusterSpan). s ∷ l) (spans-behind sum book (place + list_len sum book s) ss)

spans-beside : (book : BookData) (ss : List ClusterSpan) → map (λ (l : PlacedList). l.span) (places_beside book ss) ≡ ss
spans-beside book [] = refl
spans-beside book (s ∷ ss) = ap (λ (l : List ClusterSpan). s ∷ l) (spans-beside book ss)

spans-placed : (staged : Bool) (t : Table) (book : BookData) (most : ℕ)
    → map (λ (l : PlacedList). l.span) (list_places staged t book most) ≡ spans book most
spans-placed true t book most =
    spans-behind (header_sum t) book (end_after book.begin (ranges_of book.history)) (spans book most)
spans-placed false t book most = spans-beside book (spans book most)

length-group_texts : (gs : List Group) → length (group_texts gs) ≡ record_len 40 * length gs
length-group_texts gs = length-flat_map group_text gs
    ∙ (sum_by-each (λ (g : Group). length (group_text g)) (λ (g : Group). record_len 40) gs length-group ∙ sum_by-same (record_len 40) gs)

length-spans_of : (most n : ℕ) → length (group_spans most n) ≡ div_ceil n most
length-spans_of most n = length-map-range_with_len (cluster_span most n) 0 (div_ceil n most)

-- the footer
pub length-footer_object : (staged : Bool) (t : Table) (book : BookData) (most : ℕ)
    → blob_len (length (footer_object t book (list_places staged t book most)))
    ≡ footer_len t (group_count most (length (book_clusters book)))
unfolding footer_object footer_text
length-footer_object staged t book most =
    let ls = list_places staged t book most in
    let gs : List Group = groups t book ls in
    let sum = header_sum t in
    let extension = record_frame (extension_text t) in
    let listed = list_frame (length gs) (group_texts gs) in
    let count : length gs ≡ div_ceil (length (book_clusters book)) most =
    length-map ls (list_group sum book)
    ∙ (sym (length-map ls (λ (l : PlacedList). l.span))
    ∙ (ap (λ (l : List ClusterSpan). length l) (spans-placed staged t book most) ∙ length-spans_of most (length (book_clusters book)))) in
    let texts : length (group_texts gs) ≡ record_len 40 * div_ceil (length (book_clusters book)) most =
    length-group_texts gs ∙ ap (λ (n : ℕ). record_len 40 * n) count in
    omega (
      arith,
      length-envelope footer_kind (footer_text sum t gs),
      length-append (to_le_bytes w64 0) (to_le_bytes w64 sum ++ (extension ++ listed)),
      length-append (to_le_bytes w64 sum) (extension ++ listed),
      length-append extension listed,
      length-record (extension_text t),
      length-list (length gs) (group_texts gs),
      texts,
    )

take-nil : {A : Type 0} (n : ℕ) → ◌≡◌ {A = List A} (take n []) []
take-nil zero = refl
take-nil (suc n) = refl

-- what is kept of clusters
abbrev metas : List (Cluster ClusterMeta) → List ClusterMeta
metas cs = map (λ (c : Cluster ClusterMeta). c.meta) cs

module _ (sum : ℕ) (book : BookData) (most : ℕ) where
  -- group i
  length-span : (i : ℕ) → list_len sum book (cluster_span most (length (book_clusters book)) i)
      ≡ page_list_len (metas (chunk most (book_clusters book) i))
  length-span i = at (nat_lt (length (book_clusters book)) (i * most)) refl
    where
      at : (b : Bool) → nat_lt (length (book_clusters book)) (i * most) ≡ b
          → list_len sum book (cluster_span most (length (book_clusters book)) i)
          ≡ page_list_len (metas (chunk most (book_clusters book) i))
      at true e =
          let cs = book_clusters book in
          let behind : length cs < i * most = ltb-true (length cs) (i * most) e in
          let none : min most (length cs - i * most) ≡ 0 = omega arith in
          let empty : chunk most cs i ≡ [] = ap (λ (l : List (Cluster ClusterMeta)). take (i * most + most - i * most) l)
          (drop_all (i * most) cs (omega arith)) ∙ take-nil (i * most + most - i * most) in
          ap (λ (k : ℕ). list_len sum book (record { from = i * most; count = k })) none
          ∙ (length-no_list book sum (i * most) ∙ sym (ap (λ (l : List (Cluster ClusterMeta)). page_list_len (metas l)) empty))
      at false e =
          let cs = book_clusters book in
          let inside : i * most ≤ length cs = ltb-false (length cs) (i * most) e in
          let ds = drop (i * most) cs in
          let size : i * most + most - i * most ≡ most = omega arith in
          let same : take (min most (length cs - i * most)) ds ≡ chunk most cs i =
          ap (λ (n : ℕ). take (min most n) ds) (sym (length-drop (i * most) cs))
          ∙ (take_min most ds ∙ sym (ap (λ (n : ℕ). take n ds) size)) in
          length-list_object book sum (cluster_span most (length cs) i) (omega arith)
          ∙ ap (λ (l : List (Cluster ClusterMeta)). page_list_len (metas l)) same

  -- all groups
  length-all_lists : 0 < most → sum_by (list_len sum book) (spans book most) ≡ page_lists_len most (metas (book_clusters book))
  length-all_lists some =
      let cs = book_clusters book in
      let places = range_with_len 0 (div_ceil (length cs) most) in
      let f : List (Cluster ClusterMeta) → ℕ = λ (c : List (Cluster ClusterMeta)).
      sum_by (λ (d : Cluster ClusterMeta). listed_cluster_len d.meta) c in
      let each : sum_by (list_len sum book) (spans book most) ≡ sum_by (λ (i : ℕ). page_list_len [] + f (chunk most cs i)) places =
      sum_by-mapped (list_len sum book) (cluster_span most (length cs)) places
      ∙ sum_by-each (λ (i : ℕ). list_len sum book (cluster_span most (length cs) i)) (λ (i : ℕ). page_list_len []
      + f (chunk most cs i)) places
      (λ i. omega (arith, length-span i, sum_by-mapped listed_cluster_len (λ (d : Cluster ClusterMeta). d.meta) (chunk most cs i))) in
      let joined : sum_by (λ (i : ℕ). f (chunk most cs i)) places ≡ sum_by listed_cluster_len (metas cs) =
      sym (sum_by-mapped f (chunk most cs) places)
      ∙ (sym (sum_by-joined (λ (d : Cluster ClusterMeta). listed_cluster_len d.meta) (chunks most cs))
      ∙ (ap (λ (l : List (Cluster ClusterMeta)). sum_by (λ (d : Cluster ClusterMeta). listed_cluster_len d.meta) l)
      (chunks-joined most cs some)
      ∙ sym (sum_by-mapped listed_cluster_len (λ (d : Cluster ClusterMeta). d.meta) cs))) in
      let groups_are : div_ceil (length cs) most ≡ div_ceil (length (metas cs)) most =
      ap (λ (n : ℕ). div_ceil n most) (sym (length-map cs (λ (d : Cluster ClusterMeta). d.meta))) in
      each
      ∙ (sum_by-plus (page_list_len []) (λ (i : ℕ). f (chunk most cs i)) places
      ∙ (ap (λ (n : ℕ). page_list_len [] * n + sum_by (λ (i : ℕ). f (chunk most cs i)) places)
      (length-range_with_len 0 (div_ceil (length cs) most) ∙ groups_are)
      ∙ ap (λ (n : ℕ). page_list_len [] * div_ceil (length (metas cs)) most + n) joined))

-- the ranges are as long as what is kept of them says
pub ranges-told : (cs : List (Cluster ClusterMeta)) → ((k : ℕ) → k < length cs → (slice_index_or cs k no_cluster).len
    ≡ (slice_index_or cs k no_cluster).meta.len)
    → sum_by (λ (c : Cluster ClusterMeta). c.len) cs ≡ sum_by (λ (m : ClusterMeta). m.len) (metas cs)
ranges-told [] h = refl
ranges-told (c ∷ cs) h =
    omega (
      arith,
      sum_by-cons (λ (d : Cluster ClusterMeta). d.len) c cs,
      sum_by-cons (λ (m : ClusterMeta). m.len) c.meta (metas cs),
      h 0 (omega arith),
      ranges-told cs (λ k less. h (suc k) (omega (arith, less))),
    )

-- what ranges lack of a bound that none of them passes
lack : (bound : ℕ) (cs : List (Cluster ClusterMeta)) → ((k : ℕ) → k < length cs → (slice_index_or cs k no_cluster).len ≤ bound)
    → sum_by (λ (c : Cluster ClusterMeta). bound - c.len) cs + sum_by (λ (c : Cluster ClusterMeta). c.len) cs ≡ bound * length cs
lack bound [] low = omega arith
lack bound (c ∷ cs) low =
    omega (
      arith,
      sum_by-cons (λ (d : Cluster ClusterMeta). bound - d.len) c cs,
      sum_by-cons (λ (d : Cluster ClusterMeta). d.len) c cs,
      low 0 (omega arith),
      lack bound cs (λ k less. low (suc k) (omega (arith, less))),
    )

-- clusters that are as many as the ranges are as long as they are, in whatever order
lens-same : (book : BookData) → IsBookKept book → length (book_clusters book) ≡ length (book_ranges book)
    → sum_by (λ (c : Cluster ClusterMeta). c.len) (book_clusters book) ≡ sum_by (λ (c : Cluster ClusterMeta). c.len) (book_ranges book)
lens-same book kept all =
    let bound = 2 ^ 30 in
    let some : bound * length (book_clusters book) ≡ bound * length (book_ranges book) = ap (λ (n : ℕ). bound * n) all in
    let one = lack bound (book_clusters book)
    (λ k less. let c = kept.clusters k less in omega (arith, c.len, c.short)) in
    let other = lack bound (book_ranges book) (λ k less. let c = kept.ranges k less in omega (arith, c.len, c.short)) in
    omega (
      arith,
      some,
      one,
      other,
      clusters-sum-le (λ (c : Cluster ClusterMeta). c.len) book.staged book.history kept.staging,
      clusters-sum-le (λ (c : Cluster ClusterMeta). bound - c.len) book.staged book.history kept.staging,
    )

-- the whole file, whose ranges begin behind the header, where each of them is a cluster
length-file_by : (staged : Bool) (t : Table) (book : BookData) (most : ℕ) → length (book_clusters book) ≡ length (book_ranges book)
    → IsBookKept book → book.begin ≡ clusters_place t → 0 < most
    → file_len t book (list_places staged t book most) ≡ whole_len t most (metas (book_clusters book))
unfolding anchor_start footer_place
length-file_by staged t book most each kept begin some =
    let cs = book_clusters book in
    let ls = list_places staged t book most in
    let sum = header_sum t in
    let counts : length (metas cs) ≡ length cs = length-map cs (λ (d : Cluster ClusterMeta). d.meta) in
    let footer : blob_len (length (footer_object t book ls)) ≡ footer_len t (group_count most (length (metas cs))) =
    length-footer_object staged t book most ∙ ap (λ (n : ℕ). footer_len t (group_count most n)) (sym counts) in
    let lists : sum_by (λ (l : PlacedList). list_len sum book l.span) ls ≡ page_lists_len most (metas cs) =
    sym (sum_by-mapped (list_len sum book) (λ (l : PlacedList). l.span) ls)
    ∙ (ap (λ (l : List ClusterSpan). sum_by (list_len sum book) l) (spans-placed staged t book most)
    ∙ length-all_lists sum book most some) in
    omega (arith, begin, lens-same book kept each, ranges-told cs (λ k less. (kept.clusters k less).len), lists, footer)

-- and so where its clusters aren't staged
pub length-file_of : (staged : Bool) (t : Table) (book : BookData) (most : ℕ) → book.staged ≡ false → IsBookKept book
    → book.begin ≡ clusters_place t → 0 < most
    → file_len t book (list_places staged t book most) ≡ whole_len t most (metas (book_clusters book))
length-file_of staged t book most flat kept begin some =
    length-file_by staged t book most (ap (λ (l : List (Cluster ClusterMeta)). length l) (clusters-unstaged book flat)) kept begin some

-- the same of a book without deferred columns
pub length-file : (staged : Bool) (t : Table) (book : BookData) (most : ℕ) → length (book_clusters book) ≡ length (book_ranges book)
    → IsBookOf t book → 0 < most
    → file_len t book (list_places staged t book most) ≡ whole_len t most (metas (book_clusters book))
length-file staged t book most each is some = length-file_by staged t book most each is.kept is.begin some
