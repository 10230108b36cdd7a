-- The parts of a file with columns more.
use Rattle.std.proofs.Common.{◌≡◌, ◌∙◌, ap, sym, refl, ℕ, zero, suc, ◌+◌, ◌<◌, List, [], ◌∷◌, ◌++◌, map, length, take, arith, subst, Some}
use Rattle.std.specs.Prelude.{slice_index_or}
use Rattle.nt_grammar.specs.Table.{Table}
use Rattle.nt_machine.specs.History.{Cluster, ranges_of}
use Rattle.nt_book.specs.declared.list.NotedList.{NotedList}
use Rattle.nt_book.specs.declared.meta.ClusterMeta.{ClusterMeta}
use Rattle.nt_book.specs.Books.{BookData, book_clusters, book_ranges, no_cluster, noted_at}
use Rattle.nt_book.specs.Kept.{IsBookKept}
use Rattle.nt_book.specs.Listing.{no_noted}
use Rattle.nt_pagelists.specs.Blobs.{blob_len}
use Rattle.nt_pagelists.specs.Objects.{list_object}
use Rattle.nt_pagelists.specs.Staying.{StaysBelow, without_fate}
use Rattle.nt_layout.specs.Headers.{header_sum}
use Rattle.nt_layout.specs.Groups.{range_end}
use Rattle.nt_layout.specs.Finished.{range_parts}
use Rattle.nt_layout.specs.Beside.{HasListsBeside, full_span, parts_so_far}
use Rattle.nt_append.proofs.Beside.{with_lists, lists-same, group_part}
use Rattle.nt_append.proofs.Growing.{times, times-le, some-beside, listed-beside, parts-are, part-stays, list-same}

column-front : (ns more : List ℕ) (k : ℕ) → k < length ns → slice_index_or (ns ++ more) k 0 ≡ slice_index_or ns k 0
column-front [] more k less = absurd (omega (arith, less))
column-front (n ∷ ns) more zero less = refl
column-front (n ∷ ns) more (suc k) less = column-front ns more k (omega (arith, less))

module _ (t u : Table) (most : ℕ) (old new : BookData) (more : List ℕ) (kept : IsBookKept old) (kept' : IsBookKept new)
    (beside : HasListsBeside t most old) (sum : header_sum u ≡ header_sum t)
    (is : new ≡ record old { firsts = old.firsts ++ more }) where
  clusters-wide : book_clusters new ≡ book_clusters old
  clusters-wide = ap (λ (b : BookData). book_clusters b) is

  ranges-wide : book_ranges new ≡ book_ranges old
  ranges-wide = ap (λ (b : BookData). book_ranges b) is

  lists-wide : new.lists ≡ old.lists
  lists-wide = ap (λ (b : BookData). b.lists) is

  stays-wide : StaysBelow (length (book_clusters old)) old new
  stays-wide = record {
    clusters = ap (λ (cs : List (Cluster ClusterMeta)). map without_fate (take (length (book_clusters old)) cs)) clusters-wide;
    firsts = λ column less. ap (λ (b : BookData). slice_index_or b.firsts column 0) is ∙ column-front old.firsts more column less;
  }

  ends-wide : (k : ℕ) → k < length (book_clusters old)
      → range_end (slice_index_or (book_clusters new) k no_cluster) ≡ range_end (slice_index_or (book_clusters old) k no_cluster)
  ends-wide k less = ap (λ (cs : List (Cluster ClusterMeta)). range_end (slice_index_or cs k no_cluster)) clusters-wide

  pub noted-wide : (P : List ℕ → NotedList → Type 0)
      → ((k : ℕ) → k < length old.lists → P (list_object (header_sum t) old (full_span most k)) (noted_at old k))
      → (k : ℕ) → k < length new.lists → P (list_object (header_sum u) new (full_span most k)) (noted_at new k)
  noted-wide P was k less =
      let inside : k < length old.lists = omega (arith, less, ap (λ (ls : List NotedList). length ls) lists-wide) in
      subst (λ (ls : List NotedList). P (list_object (header_sum u) new (full_span most k)) (slice_index_or ls k no_noted))
      (sym lists-wide)
      (subst (λ (o : List ℕ). P o (noted_at old k))
      (sym (list-same t u most old new kept (some-beside t most old kept beside) sum stays-wide ends-wide k
      (omega (arith, times-le k (length old.lists) most inside, times most old.lists, listed-beside t most old kept beside))))
      (was k inside))

  pub beside-wide : HasListsBeside u most new
  beside-wide = record {
    group = ap (λ (b : BookData). b.group) is ∙ (beside.group ∙ ap (λ (n : ℕ). Some (most, n)) (sym sum));
    untorn = ap (λ (b : BookData). b.torn) is ∙ beside.untorn;
    noted = noted-wide (λ object l. l.len ≡ blob_len (length object)) beside.noted;
  }

  pub parts-wide : (ranges : List (List ℕ)) → parts_so_far u new most ranges ≡ parts_so_far t old most ranges
  parts-wide ranges =
      parts-are u most new kept' beside-wide ranges
      ∙ (ap (λ (ls : List NotedList). with_lists (group_part (header_sum u) new most) most 0 ls
      (range_parts (ranges_of new.history) ranges)) lists-wide
      ∙ (ap (λ (cs : List (Cluster ClusterMeta)). with_lists (group_part (header_sum u) new most) most 0 old.lists
      (range_parts cs ranges)) ranges-wide
      ∙ (lists-same most (group_part (header_sum u) new most) (group_part (header_sum t) old most) 0 old.lists
      (range_parts (ranges_of old.history) ranges)
      (λ j le. part-stays t u most old new kept (some-beside t most old kept beside) sum stays-wide ends-wide j
      (omega (arith, le, listed-beside t most old kept beside)))
      ∙ sym (parts-are t most old kept beside ranges))))
