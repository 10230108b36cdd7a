-- The parts of a file with one cluster more, or with columns more.
use Rattle.std.proofs.Common.{◌≡◌, ◌∙◌, ◌⊎◌, inl, inr, ap, sym, refl, ℕ, zero, suc, ◌+◌, ◌*◌, ◌<◌, Bool, true, false, List, [], ◌∷◌}
use Rattle.std.proofs.Common.{◌++◌}
use Rattle.std.proofs.Common.{map, length, take, arith, append_assoc, subst}
use Rattle.std.specs.Prelude.{slice_index_or}
use Rattle.std.proofs.lemmas.List.{length-append, map-append, take-append-le}
use Rattle.nt_lists.specs.Parts.{Part, part_bytes}
use Rattle.nt_grammar.specs.Table.{Table}
use Rattle.nt_machine.specs.History.{Cluster, ranges_of}
use Rattle.nt_book.specs.declared.list.NotedList.{NotedList}
use Rattle.nt_book.specs.declared.meta.ClusterMeta.{ClusterMeta}
use Rattle.nt_book.specs.Books.{BookData, book_clusters, book_ranges, book_end, is_due, no_cluster, noted_at}
use Rattle.nt_book.specs.Kept.{IsBookKept}
use Rattle.nt_book.specs.Listing.{clusters_listed, no_noted}
use Rattle.nt_book.proofs.Beside.{clusters_listed-more}
use Rattle.nt_pagelists.specs.Blobs.{blob_len}
use Rattle.nt_pagelists.specs.Due.{due_object}
use Rattle.nt_pagelists.specs.Objects.{list_object}
use Rattle.nt_pagelists.specs.Staying.{StaysBelow, without_fate}
use Rattle.nt_layout.specs.Headers.{header_sum}
use Rattle.nt_layout.specs.Groups.{range_end}
use Rattle.nt_layout.specs.Finished.{range_parts}
use Rattle.nt_layout.specs.Beside.{HasListsBeside, full_span, parts_so_far}
use Rattle.nt_finished.proofs.RangeParts.{length-range_parts}
use Rattle.nt_append.specs.Appending.{GainsCluster, due_blobs, lists_with_due, settled_cluster, with_due_list}
use Rattle.nt_append.proofs.Due.{due_note, blobs-due, blobs-none, lists-due, lists-none}
use Rattle.nt_append.proofs.Beside.{with_lists, lists-same, range-more, list-more, group_part, range_parts-more, index-front}
use Rattle.nt_append.proofs.Beside.{noted-front, noted-last}
use Rattle.nt_append.proofs.Growing.{times, times-le, some-beside, listed-beside, parts-are, full-beside, due-object-is, due-part}
use Rattle.nt_append.proofs.Growing.{part-stays, plain-beside, list-same}
use Rattle.nt_append.proofs.Entered.{ranges-gained}
use Rattle.nt_commit.proofs.Unstaged.{count-plain}

last_or_before : (k n : ℕ) → k < suc n → (k < n) ⊎ (k ≡ n)
last_or_before zero zero less = inr refl
last_or_before zero (suc n) less = inl (omega arith)
last_or_before (suc k) zero less = absurd (omega (arith, less))
last_or_before (suc k) (suc n) less =
    elim (last_or_before k n (omega (arith, less))) [
      | inl before ↦ inl (omega (arith, before))
      | inr is ↦ inr (omega (arith, is))
    ]

module _ (t : Table) (most : ℕ) (old new : BookData) (meta : ClusterMeta) (kept : IsBookKept old) (beside : HasListsBeside t most old)
    (gains : GainsCluster meta (with_due_list old) new) where
  abbrev more : Cluster ClusterMeta
  more = settled_cluster (length (book_clusters old)) (book_end (with_due_list old)) meta

  stays : StaysBelow (length (book_clusters old)) old new
  stays = record {
    clusters = ap (λ (cs : List (Cluster ClusterMeta)). map without_fate (take (length (book_clusters old)) cs)) gains.clusters
        ∙ ap (λ (cs : List (Cluster ClusterMeta)). map without_fate cs)
        (take-append-le (length (book_clusters old)) (book_clusters old) (more ∷ []) (omega arith));
    firsts = λ column less. ap (λ (b : BookData). slice_index_or b.firsts column 0) gains.same;
  }

  same-ends : (k : ℕ) → k < length (book_clusters old)
      → range_end (slice_index_or (book_clusters new) k no_cluster) ≡ range_end (slice_index_or (book_clusters old) k no_cluster)
  same-ends k less =
      ap (λ (cs : List (Cluster ClusterMeta)). range_end (slice_index_or cs k no_cluster)) gains.clusters
      ∙ ap (λ (c : Cluster ClusterMeta). range_end c) (index-front (book_clusters old) more k less)

  some : 0 < most
  some = some-beside t most old kept beside

  lists-are : new.lists ≡ lists_with_due old
  lists-are = ap (λ (b : BookData). b.lists) gains.same

  list-of : (k : ℕ) → k < length old.lists
      → list_object (header_sum t) new (full_span most k) ≡ list_object (header_sum t) old (full_span most k)
  list-of k less =
      list-same t t most old new kept some refl stays same-ends k
      (omega (arith, times-le k (length old.lists) most less, times most old.lists, listed-beside t most old kept beside))

  -- what is said of each page list that is noted, by what it lists
  module _ (P : List ℕ → NotedList → Type 0)
      (was : (k : ℕ) → k < length old.lists → P (list_object (header_sum t) old (full_span most k)) (noted_at old k))
      (one : P (due_object old) (due_note old)) where
    at : (x : Bool) → is_due old ≡ x → (k : ℕ) → k < length new.lists
        → P (list_object (header_sum t) new (full_span most k)) (noted_at new k)
    at false due k less =
        let same = lists-are ∙ lists-none old due in
        let inside : k < length old.lists = omega (arith, less, ap (λ (ls : List NotedList). length ls) same) in
        subst (λ (o : List ℕ). P o (noted_at new k)) (sym (list-of k inside))
        (subst (λ (ls : List NotedList). P (list_object (header_sum t) old (full_span most k)) (slice_index_or ls k no_noted)) (sym same)
        (was k inside))
    at true due k less =
        let same = lists-are ∙ lists-due old due in
        let long = ap (λ (ls : List NotedList). length ls) same ∙ length-append old.lists (due_note old ∷ []) in
        subst (λ (ls : List NotedList). P (list_object (header_sum t) new (full_span most k)) (slice_index_or ls k no_noted)) (sym same)
        (elim (last_or_before k (length old.lists) (omega (arith, less, long))) [
          | inl inside ↦
              subst (λ (l : NotedList). P (list_object (header_sum t) new (full_span most k)) l)
              (sym (noted-front old.lists (due_note old) no_noted k inside))
              (subst (λ (o : List ℕ). P o (noted_at old k)) (sym (list-of k inside)) (was k inside))
          | inr last ↦
              let full = full-beside t most old kept beside due in
              let here : clusters_listed most old.lists ≡ k * most =
              times most old.lists ∙ ap (λ (n : ℕ). n * most) (sym last) in
              let object : due_object old ≡ list_object (header_sum t) new (full_span most k) =
              due-object-is t most old kept beside due
              ∙ (ap (λ (n : ℕ). list_object (header_sum t) old (record { from = n; count = most })) here
              ∙ sym (list-same t t most old new kept some refl stays same-ends k (omega (arith, full, here)))) in
              subst (λ (l : NotedList). P (list_object (header_sum t) new (full_span most k)) l)
              (sym (noted-last old.lists (due_note old) no_noted k last))
              (subst (λ (o : List ℕ). P o (due_note old)) object one)
        ])

    pub noted-grown : (k : ℕ) → k < length new.lists → P (list_object (header_sum t) new (full_span most k)) (noted_at new k)
    noted-grown = at (is_due old) refl

  -- its page lists stand beside its clusters
  pub beside-grown : HasListsBeside t most new
  beside-grown = record {
    group = ap (λ (b : BookData). b.group) gains.same ∙ beside.group;
    untorn = ap (λ (b : BookData). b.torn) gains.same ∙ beside.untorn;
    noted = noted-grown (λ object l. l.len ≡ blob_len (length object)) beside.noted refl;
  }

  module _ (kept' : IsBookKept new) (ranges : List (List ℕ)) (range : List ℕ) (long : length ranges ≡ length (book_ranges old)) where
    abbrev P : ℕ → Part
    P = group_part (header_sum t) old most

    abbrev Q : ℕ → Part
    Q = group_part (header_sum t) new most

    abbrev ps : List Part
    ps = range_parts (ranges_of old.history) ranges

    abbrev x : Part
    x = record { place = book_end (with_due_list old); bytes = range }

    before : with_lists P most 0 old.lists ps ≡ parts_so_far t old most ranges
    before = sym (parts-are t most old kept beside ranges)

    counted : length ps ≡ length (book_ranges old)
    counted = length-range_parts (ranges_of old.history) ranges long

    plain : old.staged ≡ false
    plain = plain-beside t most old kept beside

    -- the ranges are the clusters
    same-count : length (book_clusters old) ≡ length (book_ranges old)
    same-count = count-plain old plain

    abbrev last : Cluster ClusterMeta
    last = settled_cluster (length (book_ranges old)) (book_end (with_due_list old)) meta

    gained : book_ranges new ≡ book_ranges old ++ last ∷ []
    gained = ranges-gained meta (with_due_list old) new plain gains

    behind : parts_so_far t new most (ranges ++ range ∷ []) ≡ with_lists Q most 0 new.lists (ps ++ x ∷ [])
    behind =
        parts-are t most new kept' beside-grown (ranges ++ range ∷ [])
        ∙ ap (λ (l : List Part). with_lists Q most 0 new.lists l)
        (ap (λ (cs : List (Cluster ClusterMeta)). range_parts cs (ranges ++ range ∷ [])) gained
        ∙ range_parts-more (ranges_of old.history) ranges last range long)

    turned : with_lists Q most 0 old.lists ps ≡ with_lists P most 0 old.lists ps
    turned =
        lists-same most Q P 0 old.lists ps
        (λ j le. part-stays t t most old new kept some refl stays same-ends j
        (omega (arith, le, listed-beside t most old kept beside)))

    parts-grown : (y : Bool) → is_due old ≡ y → part_bytes (parts_so_far t new most (ranges ++ range ∷ []))
        ≡ part_bytes (parts_so_far t old most ranges) ++ (due_blobs old ++ range ∷ [])
    parts-grown false due =
        ap (λ (l : List Part). part_bytes l)
        (behind ∙ (ap (λ (ls : List NotedList). with_lists Q most 0 ls (ps ++ x ∷ [])) (lists-are ∙ lists-none old due)
        ∙ (range-more most Q 0 old.lists ps x (omega (arith, counted, same-count, listed-beside t most old kept beside))
        ∙ ap (λ (l : List Part). l ++ x ∷ []) (turned ∙ before))))
        ∙ (map-append (λ (p : Part). p.bytes) (parts_so_far t old most ranges) (x ∷ [])
        ∙ ap (λ (bs : List (List ℕ)). part_bytes (parts_so_far t old most ranges) ++ (bs ++ range ∷ [])) (sym (blobs-none old due)))
    parts-grown true due =
        let full = full-beside t most old kept beside due in
        let d = clusters_listed most old.lists in
        let one = due_note old in
        let none : 0 + d ≡ d = omega arith in
        ap (λ (l : List Part). part_bytes l)
        (behind ∙ (ap (λ (ls : List NotedList). with_lists Q most 0 ls (ps ++ x ∷ [])) (lists-are ∙ lists-due old due)
        ∙ (range-more most Q 0 (old.lists ++ one ∷ []) ps x
        (omega (arith, counted, same-count, full, clusters_listed-more most old.lists one))
        ∙ ap (λ (l : List Part). l ++ x ∷ [])
        (list-more most Q 0 old.lists one ps (omega (arith, counted, same-count, full))
        ∙ (ap (λ (l : List Part). l ++ Q (0 + d) ∷ []) (turned ∙ before)
        ∙ (ap (λ (n : ℕ). parts_so_far t old most ranges ++ Q n ∷ []) none
        ∙ ap (λ (p : Part). parts_so_far t old most ranges ++ p ∷ [])
        (part-stays t t most old new kept some refl stays same-ends d (omega (arith, full)))))))))
        ∙ (map-append (λ (p : Part). p.bytes) (parts_so_far t old most ranges ++ P d ∷ []) (x ∷ [])
        ∙ (ap (λ (bs : List (List ℕ)). bs ++ range ∷ [])
        (map-append (λ (p : Part). p.bytes) (parts_so_far t old most ranges) (P d ∷ []))
        ∙ (append_assoc (part_bytes (parts_so_far t old most ranges)) ((P d).bytes ∷ []) (range ∷ [])
        ∙ (ap (λ (b : List ℕ). part_bytes (parts_so_far t old most ranges) ++ (b ∷ range ∷ [])) (due-part t most old kept beside due)
        ∙ ap (λ (bs : List (List ℕ)). part_bytes (parts_so_far t old most ranges) ++ (bs ++ range ∷ [])) (sym (blobs-due old due))))))

    -- and so do the parts of its file
    pub parts-more : part_bytes (parts_so_far t new most (ranges ++ range ∷ []))
        ≡ part_bytes (parts_so_far t old most ranges) ++ (due_blobs old ++ range ∷ [])
    parts-more = parts-grown (is_due old) refl
