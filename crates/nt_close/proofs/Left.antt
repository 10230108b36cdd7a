-- The page lists that are left to be written: they stand one behind the other, from the end of the book on.
use Rattle.std.proofs.Common.{◌≡◌, ◌∙◌, ℕ, suc, ◌+◌, ◌-◌, ◌*◌, ◌<◌, ◌≤◌, Bool, true, false, List, [], ◌∷◌, length, take, drop}
use Rattle.std.proofs.Common.{refl, ap, sym, subst, arith, suc-mul, Option, Some}
use Rattle.std.specs.Prelude.{nat_lt, slice_index_or}
use Rattle.std.specs.List.{range_with_len, sum_by}
use Rattle.std.specs.Int.{div_ceil}
use Rattle.std.proofs.lemmas.Bool.Decides.{nat_tests}
use Rattle.std.proofs.lemmas.List.{drop-map, length-drop}
use Rattle.std.proofs.lemmas.List.Sums.{sum_by-append, sum_by-cons}
use Rattle.std.proofs.lemmas.List.{take-append-drop}
use Rattle.nt_machine.specs.History.{Cluster, ranges_of}
use Rattle.nt_machine.specs.Legal.{spans_of, end_after}
use Rattle.nt_machine.specs.Spans.{Span}
use Rattle.nt_book.specs.declared.list.NotedList.{NotedList}
use Rattle.nt_book.specs.declared.list.Tear.{Tear}
use Rattle.nt_book.specs.declared.meta.ClusterMeta.{ClusterMeta}
use Rattle.nt_book.specs.Books.{BookData, book_clusters, book_end, cluster_at, no_cluster}
use Rattle.nt_book.specs.Kept.{IsBookKept}
use Rattle.nt_book.specs.Listing.{AreBeside, AtMostOneUnlisted, HasNoLists, clusters_listed, group_size, lists_bytes, spans_len, torn_bytes}
use Rattle.nt_pagelists.proofs.Named.{clusters-unstaged}
use Rattle.nt_pagelists.specs.Objects.{ClusterSpan}
use Rattle.nt_layout.specs.Groups.{range_end, place_beside, places_beside, places_behind}
use Rattle.nt_layout.specs.Arranged.{group_for}
use Rattle.nt_layout.specs.Finished.{spans}
use Rattle.nt_finished.proofs.Spans.{AreInOrder, order-le, spans_in_order}
use Rattle.nt_finished.proofs.BesideLists.{AreLarge, spans-large}
use Rattle.nt_finished.proofs.RangeParts.{index-drop, last-end}
use Rattle.nt_close.specs.Making.{CanBeListed, left_lists, spans_left}

-- ---- spans

pub span-is : (s : ClusterSpan) (from count : ℕ) → s.from ≡ from → s.count ≡ count → s ≡ record { from = from; count = count }
span-is s from count begins counts =
    ap (λ (k : ℕ). record { from = k; count = s.count }) begins ∙ ap (λ (k : ℕ). record { from = from; count = k }) counts

none-behind : (k n : ℕ) (ss : List ClusterSpan) → AreInOrder k n ss → k ≡ n → ss ≡ []
none-behind k n [] order is = refl
none-behind k n (s ∷ ss) order is = absurd (omega (arith, order.1, order-le (k + s.count) n ss order.2, is))

-- lists of so many clusters each
pub listed-times : (most : ℕ) (ls : List NotedList) → clusters_listed most ls ≡ length ls * most
listed-times most [] = omega arith
listed-times most (l ∷ ls) = omega (arith, listed-times most ls, suc-mul (length ls) most)

module _ (most n : ℕ) (some : 0 < most) where
  -- all groups have their lists
  none-left : (ss : List ClusterSpan) (k : ℕ) (ls : List NotedList) → AreInOrder k n ss → AreLarge most n ss
      → k + clusters_listed most ls ≡ n → drop (length ls) ss ≡ []
  none-left ss k [] order large all = none-behind k n ss order (omega (arith, all))
  none-left [] k (l ∷ ls) order large all = refl
  none-left (s ∷ ss) k (l ∷ ls) order large all =
      let count : s.count ≡ most = omega (arith, large.0, order.0, all) in
      none-left ss (k + s.count) ls order.2 large.1 (omega (arith, count, all))

  -- all but the last
  one-left : (ss : List ClusterSpan) (k : ℕ) (ls : List NotedList) → AreInOrder k n ss → AreLarge most n ss
      → k + clusters_listed most ls < n → n ≤ k + clusters_listed most ls + most
      → drop (length ls) ss ≡ record {
        from = k + clusters_listed most ls;
        count = n - (k + clusters_listed most ls);
      } ∷ []
  one-left [] k ls order large less few = absurd (omega (arith, order, less))
  one-left (s ∷ ss) k [] order large less few =
      let count : s.count ≡ n - (k + 0) = omega (arith, large.0, order.0, less, few) in
      ap (λ (l : List ClusterSpan). s ∷ l) (none-behind (k + s.count) n ss order.2 (omega (arith, count, less)))
      ∙ ap (λ (t : ClusterSpan). t ∷ []) (span-is s (k + 0) (n - (k + 0)) (omega (arith, order.0)) count)
  one-left (s ∷ ss) k (l ∷ ls) order large less few =
      let count : s.count ≡ most = omega (arith, large.0, order.0, less) in
      let same : k + s.count + clusters_listed most ls ≡ k + (most + clusters_listed most ls) = omega (arith, count) in
      one-left ss (k + s.count) ls order.2 large.1 (omega (arith, same, less)) (omega (arith, same, few))
      ∙ ap (λ (f : ℕ). record { from = f; count = n - f } ∷ []) same

-- ---- where the last range ends

bytes-of : (cs : List (Cluster ClusterMeta)) → spans_len (spans_of cs) ≡ sum_by (λ (c : Cluster ClusterMeta). c.len) cs
bytes-of [] = refl
bytes-of (c ∷ cs) =
    omega (
      arith,
      bytes-of cs,
      sum_by-cons (λ (s : Span). s.len) (record { start = c.start; len = c.len }) (spans_of cs),
      sum_by-cons (λ (d : Cluster ClusterMeta). d.len) c cs,
    )

halves : (n : ℕ) (ss : List Span) → spans_len (take n ss) + spans_len (drop n ss) ≡ spans_len ss
halves n ss = sym (sum_by-append (λ (s : Span). s.len) (take n ss) (drop n ss)) ∙ ap spans_len (take-append-drop n ss)

last-beside : (most place m : ℕ) (ls : List NotedList) (cs : List (Cluster ClusterMeta)) → clusters_listed most ls < length cs
    → length cs ≡ suc m → AreBeside place most ls (spans_of cs)
    → range_end (slice_index_or cs m no_cluster) ≡ place + spans_len (spans_of cs) + lists_bytes ls
last-beside most place m [] cs less long beside = omega (arith, last-end place m cs beside long)
last-beside most place m (l ∷ ls) cs less long beside =
    let back : drop most (spans_of cs) ≡ spans_of (drop most cs) =
    drop-map (λ (c : Cluster ClusterMeta). record { start = c.start; len = c.len }) most cs in
    let next = place + spans_len (take most (spans_of cs)) + l.len in
    let at : most + (m - most) ≡ m = omega (arith, less, long) in
    let rest = last-beside most next (m - most) ls (drop most cs) (omega (arith, less, length-drop most cs))
    (omega (arith, less, long, length-drop most cs)) (subst (λ (s : List Span). AreBeside next most ls s) back beside.1) in
    omega (
      arith,
      rest,
      ap (λ (c : Cluster ClusterMeta). range_end c) (index-drop most (m - most) cs),
      ap (λ (i : ℕ). range_end (slice_index_or cs i no_cluster)) at,
      halves most (spans_of cs),
      ap spans_len back,
      sum_by-cons (λ (k : NotedList). k.len) l ls,
    )

-- one list behind its last cluster, which ends the book
one-beside : (sum : ℕ) (book : BookData) (s : ClusterSpan) (ss : List ClusterSpan) → ss ≡ s ∷ []
    → range_end (cluster_at book (s.from + s.count - 1)) ≡ book_end book
    → places_beside book ss ≡ places_behind sum book (book_end book) ss
one-beside sum book s ss one there =
    ap (places_beside book) one
    ∙ (ap (λ (p : ℕ). record { place = p; span = s } ∷ []) there ∙ sym (ap (places_behind sum book (book_end book)) one))

-- ---- of a book

module _ (sum most : ℕ) (book : BookData) (kept : IsBookKept book) (can : CanBeListed book most sum) where
  -- how many clusters there are
  abbrev pub all : ℕ
  all = length (book_clusters book)

  -- how many are listed
  abbrev pub listed : ℕ
  listed = length book.lists * most

  pub in-order : AreInOrder 0 all (spans book most)
  in-order = spans_in_order most all can.some

  pub large : AreLarge most all (spans book most)
  large = spans-large most all (range_with_len 0 (div_ceil all most))

  -- a staged book has no list yet
  pub none-noted : book.staged ≡ true → HasNoLists book.lists book.torn
  none-noted is = kept.none_between (kept.no_groups is)

  -- any other has groups
  grouped : book.staged ≡ false → book.group ≡ Some (most, sum)
  grouped is = can.group ∙ ap (λ (b : Bool). group_for b most sum) is

  pub listed-fit : listed ≤ all
  listed-fit = at book.staged refl
    where
      at : (b : Bool) → book.staged ≡ b → listed ≤ all
      at true is = omega (arith, ap (λ (ls : List NotedList). length ls * most) (none-noted is).none_noted)
      at false is =
          omega (
            arith,
            listed-times most book.lists,
            subst (λ (g : Option (ℕ × ℕ)). clusters_listed (group_size g) book.lists ≤ all) (grouped is) kept.listed,
          )

  module _ (unstaged : book.staged ≡ false) where
    few-left : all ≤ clusters_listed most book.lists + most
    few-left =
        subst (λ (g : Option (ℕ × ℕ)). AtMostOneUnlisted g book.lists all) (grouped unstaged) (kept.few_lists can.untorn)

    -- the last range ends the book, if the list of its group isn't noted
    ends-there : listed < all → range_end (cluster_at book (all - 1)) ≡ book_end book
    ends-there less =
        let cs = ranges_of book.history in
        let same : book_clusters book ≡ cs = clusters-unstaged book unstaged in
        let placed : AreBeside book.begin most book.lists (spans_of cs) =
        subst (λ (g : Option (ℕ × ℕ)). AreBeside book.begin (group_size g) book.lists (spans_of cs)) (grouped unstaged)
        (kept.placed can.untorn) in
        omega (
          arith,
          last-beside most book.begin (all - 1) book.lists cs (omega (arith, less, listed-times most book.lists, ap length same))
              (omega (arith, less, ap length same)) placed,
          ap (λ (l : List (Cluster ClusterMeta)). range_end (slice_index_or l (all - 1) no_cluster)) same,
          bytes-of cs,
          ap (λ (t : Option Tear). torn_bytes t) can.untorn,
        )

    left-none : all ≤ listed → places_beside book (spans_left book most) ≡ places_behind sum book (book_end book) (spans_left book most)
    left-none full =
        let none : spans_left book most ≡ [] =
        none-left most all can.some (spans book most) 0 book.lists in-order large
        (omega (arith, listed-times most book.lists, listed-fit, full)) in
        ap (places_beside book) none ∙ sym (ap (places_behind sum book (book_end book)) none)

    left-one : listed < all → places_beside book (spans_left book most) ≡ places_behind sum book (book_end book) (spans_left book most)
    left-one less =
        let from = 0 + clusters_listed most book.lists in
        let s : ClusterSpan = record { from = from; count = all - from } in
        let one : spans_left book most ≡ s ∷ [] =
        one-left most all can.some (spans book most) 0 book.lists in-order large (omega (arith, listed-times most book.lists, less))
        (omega (arith, few-left)) in
        let number : from + (all - from) - 1 ≡ all - 1 = omega (arith, listed-times most book.lists, less) in
        let there : range_end (cluster_at book (from + (all - from) - 1)) ≡ book_end book =
        ap (λ (i : ℕ). range_end (cluster_at book i)) number ∙ ends-there less in
        one-beside sum book s (spans_left book most) one there

    left-beside : places_beside book (spans_left book most) ≡ places_behind sum book (book_end book) (spans_left book most)
    left-beside = at (nat_lt listed all) refl
      where
        at : (b : Bool) → nat_lt listed all ≡ b
            → places_beside book (spans_left book most) ≡ places_behind sum book (book_end book) (spans_left book most)
        at true less = left-one (grind (arith, nat_tests, less))
        at false less = left-none (grind (arith, nat_tests, less))

  -- all lists that are left stand one behind the other, where the book ends
  pub left-places : left_lists book.staged sum book most ≡ places_behind sum book (book_end book) (spans_left book most)
  left-places = at book.staged refl
    where
      at : (b : Bool) → book.staged ≡ b → left_lists b sum book most ≡ places_behind sum book (book_end book) (spans_left book most)
      at true is =
          let none = none-noted is in
          let end : end_after book.begin (ranges_of book.history) ≡ book_end book =
          omega (arith, ap lists_bytes none.none_noted, ap (λ (t : Option Tear). torn_bytes t) none.none_torn) in
          ap (λ (e : ℕ). places_behind sum book e (spans book most)) end
          ∙ ap (λ (ls : List NotedList). places_behind sum book (book_end book) (drop (length ls) (spans book most))) (sym none.none_noted)
      at false is = drop-map (place_beside book) (length book.lists) (spans book most) ∙ left-beside is
