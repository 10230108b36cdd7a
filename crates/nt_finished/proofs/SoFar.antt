-- What stands in a file before it is closed: the ranges, and the page lists that are noted.
use Rattle.std.proofs.Common.{◌≡◌, ◌∙◌, ℕ, zero, suc, ◌+◌, ◌≤◌, List, [], ◌∷◌, ◌++◌, map, length, take, drop, sum, ap, sym}
use Rattle.std.specs.Prelude.{◌⊎◌, Contains}
use Rattle.std.proofs.Common.{◌*◌, Bool, true, false, inl, inr, subst, suc-mul, Option, arith}
use Rattle.std.specs.Int.{div_ceil}
use Rattle.std.specs.List.{AllByRecursion, concat, range_with_len}
use Rattle.std.proofs.Math.Nat.{le_of_mul-le-mul_right, zero-mul}
use Rattle.std.proofs.lemmas.Grind.{div_ceil_times}
use Rattle.std.proofs.lemmas.List.{length-map, length-append}
use Rattle.std.proofs.lemmas.List.FromFn.{length-range_with_len}
use Rattle.std.proofs.lemmas.List.Sums.{sum_by-cons, sum-map}
use Rattle.nt_lists.specs.Parts.{Part, AreBehind, joined_len, part_bytes}
use Rattle.nt_format.proofs.Pieces.{length-concat}
use Rattle.nt_grammar.specs.Table.{Table}
use Rattle.nt_machine.specs.History.{Cluster, ranges_of}
use Rattle.nt_machine.specs.Legal.{spans_of}
use Rattle.nt_machine.specs.Spans.{AreBehindSpans}
use Rattle.nt_book.specs.declared.list.NotedList.{NotedList}
use Rattle.nt_book.specs.declared.list.Tear.{Tear}
use Rattle.nt_book.specs.declared.meta.ClusterMeta.{ClusterMeta}
use Rattle.nt_book.specs.Books.{BookData, IsUngrouped, book_clusters, book_end}
use Rattle.nt_book.specs.Kept.{IsBookKept}
use Rattle.nt_book.specs.Listing.{clusters_listed, lists_bytes, torn_bytes}
use Rattle.nt_book.proofs.Ungrouped.{end-ungrouped, placed-ungrouped}
use Rattle.nt_pagelists.specs.Objects.{ClusterSpan, cluster_span, list_len}
use Rattle.nt_layout.specs.Headers.{header_sum, clusters_place}
use Rattle.nt_layout.specs.Groups.{PlacedList, place_beside, places_beside, list_part, list_parts}
use Rattle.nt_layout.specs.Finished.{spans, range_parts, parts_beside}
use Rattle.nt_layout.specs.Arranged.{HasLists, lists_between, parts_filled}
use Rattle.nt_layout.specs.Beside.{HasListsBeside, lists_left, lists_noted, parts_so_far}
use Rattle.nt_layout.proofs.Middles.{concat-range_parts}
use Rattle.nt_finished.proofs.Arranged.{all_from, len-beside, lists_len, parts_len}
use Rattle.nt_finished.proofs.Beside.{all_beside, listed-beside, middle-parts, noted-beside, some-beside}
use Rattle.nt_finished.proofs.BesideLists.{AreNotedOf}
use Rattle.nt_finished.proofs.Staged.{behind-ranges}

behind-front : (place : ℕ) (ps qs : List Part) → AreBehind place (ps ++ qs) → AreBehind place ps
behind-front place [] qs h = tt
behind-front place (p ∷ ps) qs h = (h.0, behind-front (place + length p.bytes) ps qs h.1)

joined-len : (ps : List Part) → joined_len ps ≡ parts_len ps
joined-len [] = omega arith
joined-len (p ∷ ps) = omega (arith, joined-len ps, length-append p.bytes (concat (part_bytes ps)))

-- what holds of the first ones and of the others
all-take : (P : Part → Type 0) (n : ℕ) (ps : List Part) → AllByRecursion P ps → AllByRecursion P (take n ps)
all-take P zero ps h = tt
all-take P (suc n) [] h = tt
all-take P (suc n) (p ∷ ps) h = (h.0, all-take P n ps h.1)

all-drop : (P : Part → Type 0) (n : ℕ) (ps : List Part) → AllByRecursion P ps → AllByRecursion P (drop n ps)
all-drop P zero ps h = h
all-drop P (suc n) [] h = tt
all-drop P (suc n) (p ∷ ps) h = all-drop P n ps h.1

all-append : (P : Part → Type 0) (ps qs : List Part) → AllByRecursion P ps → AllByRecursion P qs → AllByRecursion P (ps ++ qs)
all-append P [] qs h g = g
all-append P (p ∷ ps) qs h g = (h.0, all-append P ps qs h.1 g)

all-parts : (P : Part → Type 0) (sum : ℕ) (book : BookData) (ls : List PlacedList) (ps : List Part) → AllByRecursion P ps
    → AllByRecursion P (list_parts sum book ls) → AllByRecursion P (parts_beside sum book ls ps)
all-parts P sum book [] ps h g = h
all-parts P sum book (l ∷ ls) ps h g =
    all-append P (take l.span.count ps) (list_part sum book l ∷ parts_beside sum book ls (drop l.span.count ps))
    (all-take P l.span.count ps h) (g.0, all-parts P sum book ls (drop l.span.count ps) (all-drop P l.span.count ps h) g.1)

-- all that stands is a range or a page list that is noted
all-so_far : (t : Table) (most : ℕ) (book : BookData) (ranges : List (List ℕ))
    → AllByRecursion (λ (p : Part). Contains (range_parts (ranges_of book.history) ranges) p
    ⊎ Contains (list_parts (header_sum t) book (lists_noted t book most)) p) (parts_so_far t book most ranges)
all-so_far t most book ranges =
    let rs = range_parts (ranges_of book.history) ranges in
    let ls = list_parts (header_sum t) book (lists_noted t book most) in
    all-parts (λ (p : Part). Contains rs p ⊎ Contains ls p) (header_sum t) book (lists_noted t book most) rs
    (all_from (λ (p : Part). Contains rs p ⊎ Contains ls p) rs (λ p is. inl is))
    (all_from (λ (p : Part). Contains rs p ⊎ Contains ls p) ls (λ p is. inr is))

pub all_before : (staged : Bool) (t : Table) (most : ℕ) (book : BookData) (ranges : List (List ℕ))
    → AllByRecursion (λ (p : Part). Contains (range_parts (ranges_of book.history) ranges) p
    ⊎ Contains (list_parts (header_sum t) book (lists_between staged t book most)) p) (parts_filled staged t book most ranges)
all_before true t most book ranges =
    let rs = range_parts (ranges_of book.history) ranges in
    all_from (λ (p : Part). Contains rs p ⊎ Contains (list_parts (header_sum t) book []) p) rs (λ p is. inl is)
all_before false t most book ranges = all-so_far t most book ranges

noted-len : (sum : ℕ) (book : BookData) (ls : List NotedList) (ss : List ClusterSpan) → AreNotedOf sum book ls ss → length ls ≤ length ss
    → lists_len sum book (take (length ls) (places_beside book ss)) ≡ lists_bytes ls
noted-len sum book [] ss noted le = omega arith
noted-len sum book (l ∷ ls) [] noted le = absurd (omega (arith, le))
noted-len sum book (l ∷ ls) (s ∷ ss) noted le =
    omega (
      arith,
      noted.0,
      noted-len sum book ls ss noted.1 (omega (arith, le)),
      sum_by-cons (λ (k : NotedList). k.len) l ls,
      sum_by-cons (λ (k : PlacedList). list_len sum book k.span) (place_beside book s)
          (take (length ls) (places_beside book ss)),
    )

listed-times : (most : ℕ) (ls : List NotedList) → clusters_listed most ls ≡ length ls * most
listed-times most [] = sym (zero-mul most)
listed-times most (l ∷ ls) = omega (arith, listed-times most ls, suc-mul (length ls) most)

module _ (t : Table) (most : ℕ) (book : BookData) (kept : IsBookKept book) (beside : HasListsBeside t most book)
    (ranges : List (List ℕ)) (begin : book.begin ≡ clusters_place t)
    (lens : map length ranges ≡ map (λ (c : Cluster ClusterMeta). c.len) (ranges_of book.history)) where
  noted-few : length book.lists ≤ length (spans book most)
  noted-few =
      let n = length (book_clusters book) in
      let count = div_ceil n most in
      let bounds = div_ceil_times n most (some-beside t most book kept beside) in
      let fewer = le_of_mul-le-mul_right {m = length book.lists} {n = count} {k = most}
      (omega (arith, bounds.0, listed-beside t most book kept beside, listed-times most book.lists))
      (some-beside t most book kept beside) in
      omega (arith, fewer, length-map (range_with_len 0 count) (cluster_span most n), length-range_with_len 0 count)

  -- they lie in order, and end where the book does
  so_far-placed : AreBehind (clusters_place t) (parts_so_far t book most ranges)
      × (clusters_place t + joined_len (parts_so_far t book most ranges) ≡ book_end book)
  so_far-placed =
      let cs = ranges_of book.history in
      let same : length ranges ≡ length cs =
      sym (length-map ranges length) ∙ (ap length lens ∙ length-map cs (λ (c : Cluster ClusterMeta). c.len)) in (
        behind-front (clusters_place t) (parts_so_far t book most ranges)
            (list_parts (header_sum t) book (lists_left t book most))
            (subst (λ (ps : List Part). AreBehind (clusters_place t) ps) (middle-parts t most book kept beside ranges lens)
            (all_beside t most book kept beside ranges begin lens)),
        omega (
          arith,
          begin,
          joined-len (parts_so_far t book most ranges),
          len-beside (header_sum t) book (lists_noted t book most) (range_parts cs ranges),
          noted-len (header_sum t) book book.lists (spans book most) (noted-beside t most book kept beside) noted-few,
          ap length (concat-range_parts cs ranges same),
          length-concat ranges,
          ap sum lens,
          sum-map (λ (c : Cluster ClusterMeta). c.len) cs,
          ap (λ (x : Option Tear). torn_bytes x) beside.untorn,
        ),
      )

-- ranges without page lists between them do so too
ranges-placed : (t : Table) (book : BookData) (ranges : List (List ℕ)) → IsBookKept book → IsUngrouped book
    → book.begin ≡ clusters_place t → map length ranges ≡ map (λ (c : Cluster ClusterMeta). c.len) (ranges_of book.history)
    → AreBehind (clusters_place t) (range_parts (ranges_of book.history) ranges)
    × (clusters_place t + joined_len (range_parts (ranges_of book.history) ranges) ≡ book_end book)
ranges-placed t book ranges kept bare begin lens =
    let cs = ranges_of book.history in
    let same : length ranges ≡ length cs =
    sym (length-map ranges length) ∙ (ap length lens ∙ length-map cs (λ (c : Cluster ClusterMeta). c.len)) in (
      behind-ranges (clusters_place t) cs ranges
          (subst (λ (n : ℕ). AreBehindSpans n (spans_of cs)) begin (placed-ungrouped book kept bare)) lens,
      omega (
        arith,
        begin,
        joined-len (range_parts cs ranges),
        ap length (concat-range_parts cs ranges same),
        length-concat ranges,
        ap sum lens,
        sum-map (λ (c : Cluster ClusterMeta). c.len) cs,
        end-ungrouped book bare,
      ),
    )

pub before-placed : (staged : Bool) (t : Table) (most : ℕ) (book : BookData) → IsBookKept book → HasLists staged t most book
    → (ranges : List (List ℕ)) → book.begin ≡ clusters_place t
    → map length ranges ≡ map (λ (c : Cluster ClusterMeta). c.len) (ranges_of book.history)
    → AreBehind (clusters_place t) (parts_filled staged t book most ranges)
    × (clusters_place t + joined_len (parts_filled staged t book most ranges) ≡ book_end book)
before-placed true t most book kept lists ranges begin lens = ranges-placed t book ranges kept lists.1 begin lens
before-placed false t most book kept lists ranges begin lens = so_far-placed t most book kept lists ranges begin lens
