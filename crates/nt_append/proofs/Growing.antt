-- A book with page lists beside its clusters, one cluster more, and the list that was due.
use Rattle.std.proofs.Common.{◌≡◌, ◌∙◌, ap, sym, refl, subst, ℕ, zero, suc, ◌+◌, ◌-◌, ◌*◌, ◌/◌, ◌<◌, ◌≤◌, Bool, true, false, List, []}
use Rattle.std.proofs.Common.{◌∷◌, ◌++◌, map}
use Rattle.std.proofs.Common.{length, take, Option, Some, None, arith, suc-mul}
use Rattle.std.specs.Prelude.{IfSome, slice_index_or}
use Rattle.std.proofs.lemmas.List.{length-append, length-map, map-append, take-append-le}
use Rattle.std.proofs.lemmas.Bool.{cases_lt}
use Rattle.std.proofs.Math.Nat.{zero-mul, mul-le-mul_right}
use Rattle.std.proofs.lemmas.Nat.{le-div}
use Rattle.std.specs.Int.{div_ceil}
use Rattle.nt_lists.specs.Parts.{Part, part_bytes}
use Rattle.nt_grammar.specs.Table.{Table}
use Rattle.nt_machine.specs.History.{Cluster, ranges_of}
use Rattle.nt_machine.specs.Legal.{spans_of}
use Rattle.nt_book.specs.declared.list.NotedList.{NotedList}
use Rattle.nt_book.specs.declared.meta.ClusterMeta.{ClusterMeta}
use Rattle.nt_book.specs.Books.{BookData, book_clusters, book_end, cluster_at, is_due, no_cluster, noted_at}
use Rattle.nt_book.specs.Kept.{IsBookKept}
use Rattle.nt_book.specs.Listing.{AreBeside, clusters_listed, group_size, no_noted, torn_bytes}
use Rattle.nt_meta.proofs.DueFacts.{due-full}
use Rattle.nt_pagelists.specs.Blobs.{blob}
use Rattle.nt_pagelists.specs.Due.{due_object, group_sum}
use Rattle.nt_pagelists.specs.Objects.{ClusterSpan, list_len, list_object}
use Rattle.nt_pagelists.specs.Staying.{StaysBelow, without_fate}
use Rattle.nt_pagelists.proofs.ListsStay.{list-stays}
use Rattle.nt_layout.specs.Headers.{header_sum}
use Rattle.nt_layout.specs.Groups.{place_beside, range_end}
use Rattle.nt_layout.specs.Finished.{range_parts}
use Rattle.nt_layout.specs.Beside.{HasListsBeside, full_span, parts_so_far}
use Rattle.nt_finished.proofs.RangeParts.{length-range_parts}
use Rattle.nt_append.specs.Appending.{GainsCluster, due_blobs, lists_with_due, settled_cluster, with_due_list}
use Rattle.nt_append.proofs.Due.{due_note, blobs-due, blobs-none, lists-due, lists-none}
use Rattle.nt_append.proofs.Beside.{with_lists, lists-same, range-more, list-more, group_part, parts-from, spans_len-ranges, last-beside}
use Rattle.nt_commit.proofs.Unstaged.{clusters-plain, count-plain, group-plain}
use Rattle.nt_append.proofs.Beside.{range_parts-more, index-front, noted-front, noted-last}

pub times : (most : ℕ) (ls : List NotedList) → clusters_listed most ls ≡ length ls * most
times most [] = sym (zero-mul most)
times most (l ∷ ls) = omega (arith, times most ls, suc-times (length ls) most)
  where
    suc-times : (n most : ℕ) → suc n * most ≡ most + n * most
    suc-times n most = omega (arith, suc-mul n most)

-- the lists before a group are those of as many clusters at most
pub times-le : (k n most : ℕ) → k < n → k * most + most ≤ n * most
times-le k n most less = omega (arith, mul-le-mul_right {m = suc k} {n = n} most (omega (arith, less)), suc-mul k most)

module _ (t : Table) (most : ℕ) (book : BookData) (kept : IsBookKept book) (beside : HasListsBeside t most book) where
  pub some-beside : 0 < most
  some-beside = subst (λ (g : Option (ℕ × ℕ)). IfSome g (λ (x : ℕ × ℕ). 0 < x.0)) beside.group kept.sized

  pub listed-beside : clusters_listed most book.lists ≤ length (book_clusters book)
  listed-beside =
      subst (λ (g : Option (ℕ × ℕ)). clusters_listed (group_size g) book.lists ≤ length (book_clusters book)) beside.group kept.listed

  -- the book isn't staged
  pub plain-beside : book.staged ≡ false
  plain-beside = group-plain book (most, header_sum t) kept beside.group

  placed-beside : AreBeside book.begin most book.lists (spans_of (ranges_of book.history))
  placed-beside =
      subst (λ (g : Option (ℕ × ℕ)). AreBeside book.begin (group_size g) book.lists (spans_of (ranges_of book.history))) beside.group
      (kept.placed beside.untorn)

  abbrev ranged : List (List ℕ) → List Part
  ranged ranges = range_parts (ranges_of book.history) ranges

  -- the parts of its file so far
  pub parts-are : (ranges : List (List ℕ))
      → parts_so_far t book most ranges ≡ with_lists (group_part (header_sum t) book most) most 0 book.lists (ranged ranges)
  parts-are ranges =
      let n = length (book_clusters book) in
      let few : length book.lists ≤ n / most =
      le-div (length book.lists) n most some-beside (omega (arith, listed-beside, times most book.lists)) in
      let none : 0 * most ≡ 0 = zero-mul most in
      parts-from (header_sum t) book most n 0 (div_ceil n most) book.lists (ranged ranges) (omega (arith, listed-beside, none))
      (omega (arith, few))
      ∙ ap (λ (k : ℕ). with_lists (group_part (header_sum t) book most) most k book.lists (ranged ranges)) none

  -- ---- the list that is due

  module _ (due : is_due book ≡ true) where
    pub full-beside : length (book_clusters book) ≡ clusters_listed most book.lists + most
    full-beside = due-full book (most, header_sum t) due beside.group

    pub due-object-is : due_object book
        ≡ list_object (header_sum t) book (record { from = clusters_listed most book.lists; count = most })
    unfolding due_object
    due-object-is =
        ap (λ (g : Option (ℕ × ℕ)). list_object (group_sum g) book (record {
          from = clusters_listed (group_size g) book.lists;
          count = group_size g;
        })) beside.group

    due-place : range_end (cluster_at book (clusters_listed most book.lists + most - 1)) ≡ book_end book
    due-place =
        let k = clusters_listed most book.lists + most - 1 in
        let last = last-beside book.begin most book.lists (ranges_of book.history) k placed-beside (omega (arith, some-beside))
        (omega (arith, full-beside, some-beside, count-plain book plain-beside)) in
        omega (
          arith,
          last,
          spans_len-ranges (ranges_of book.history),
          ap torn_bytes beside.untorn,
          ap (λ (cs : List (Cluster ClusterMeta)). range_end (slice_index_or cs k no_cluster)) (clusters-plain book plain-beside),
        )

    pub due-part : (group_part (header_sum t) book most (clusters_listed most book.lists)).bytes ≡ blob (book_end book) (due_object book)
    due-part =
        ap (λ (n : ℕ). blob n (list_object (header_sum t) book (record { from = clusters_listed most book.lists; count = most }))) due-place
        ∙ ap (λ (o : List ℕ). blob (book_end book) o) (sym due-object-is)

-- ---- a book that agrees with it below

module _ (t u : Table) (most : ℕ) (old new : BookData) (kept : IsBookKept old) (some : 0 < most) (sum : header_sum u ≡ header_sum t)
    (stays : StaysBelow (length (book_clusters old)) old new)
    (same : (k : ℕ) → k < length (book_clusters old) → range_end (cluster_at new k) ≡ range_end (cluster_at old k)) where
  below : (n : ℕ) → n ≤ length (book_clusters old) → StaysBelow n old new
  below n le = record {
    clusters = fewer n (length (book_clusters old)) (book_clusters new) (book_clusters old) le stays.clusters;
    firsts = stays.firsts;
  }
    where
      fewer : (n m : ℕ) (cs ds : List (Cluster ClusterMeta)) → n ≤ m → map without_fate (take m cs) ≡ map without_fate (take m ds)
          → map without_fate (take n cs) ≡ map without_fate (take n ds)
      fewer zero m cs ds le is = refl
      fewer (suc n) zero cs ds le is = absurd (omega (arith, le))
      fewer (suc n) (suc m) [] [] le is = refl
      fewer (suc n) (suc m) [] (d ∷ ds) le is = absurd (cc is)
      fewer (suc n) (suc m) (c ∷ cs) [] le is = absurd (cc is)
      fewer (suc n) (suc m) (c ∷ cs) (d ∷ ds) le is =
          let first : without_fate c ≡ without_fate d = cc is in
          let rest : map without_fate (take m cs) ≡ map without_fate (take m ds) = cc is in
          ap (λ (e : Cluster ClusterMeta). e ∷ map without_fate (take n cs)) first
          ∙ ap (λ (l : List (Cluster ClusterMeta)). without_fate d ∷ l) (fewer n m cs ds (omega (arith, le)) rest)

  object-stays : (from count : ℕ) → from + count ≤ length (book_clusters old)
      → list_object (header_sum u) new (record { from = from; count = count })
      ≡ list_object (header_sum t) old (record { from = from; count = count })
  object-stays from count le =
      ap (λ (n : ℕ). list_object n new (record { from = from; count = count })) sum
      ∙ list-stays (header_sum t) old new (record { from = from; count = count }) kept le (below (from + count) le)

  -- its page lists are the same
  pub part-stays : (from : ℕ) → from + most ≤ length (book_clusters old)
      → group_part (header_sum u) new most from ≡ group_part (header_sum t) old most from
  part-stays from le =
      ap (λ (n : ℕ). record { place = n; bytes = blob n (list_object (header_sum u) new (record { from = from; count = most })) })
      (same (from + most - 1) (omega (arith, le, some)))
      ∙ ap (λ (o : List ℕ). record {
        place = range_end (cluster_at old (from + most - 1));
        bytes = blob (range_end (cluster_at old (from + most - 1))) o;
      }) (object-stays from most le)

  pub list-same : (k : ℕ) → k * most + most ≤ length (book_clusters old)
      → list_object (header_sum u) new (full_span most k) ≡ list_object (header_sum t) old (full_span most k)
  list-same k le = object-stays (k * most) most le
