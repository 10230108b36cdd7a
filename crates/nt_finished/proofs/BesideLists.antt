-- Page lists beside the clusters of a group, one group behind the other.
use Rattle.std.proofs.Common.{◌≡◌, ℕ, zero, suc, ◌+◌, ◌-◌, ◌*◌, ◌<◌, ◌≤◌, min, List, [], ◌∷◌, ◌++◌, map, length, take, drop, refl}
use Rattle.std.proofs.Common.{sym, ap, subst, ◌∙◌, append_assoc, append-nil, arith, suc-mul, add-one}
use Rattle.std.specs.Prelude.{slice_index_or}
use Rattle.std.specs.List.{AllByRecursion, range_with_len}
use Rattle.std.proofs.lemmas.List.{length-take, length-drop, take-map, drop-map, drop-drop}
use Rattle.nt_lists.specs.Parts.{Part, AreBehind}
use Rattle.nt_machine.specs.History.{Cluster}
use Rattle.nt_machine.specs.Legal.{spans_of}
use Rattle.nt_machine.specs.Spans.{Span, AreBehindSpans}
use Rattle.nt_book.specs.declared.list.NotedList.{NotedList}
use Rattle.nt_book.specs.declared.meta.ClusterMeta.{ClusterMeta}
use Rattle.nt_book.specs.Books.{BookData, book_clusters, cluster_at, no_cluster}
use Rattle.nt_book.specs.Listing.{AreBeside, clusters_listed, no_noted, spans_len}
use Rattle.nt_pagelists.specs.Objects.{ClusterSpan, cluster_span, list_object, list_len}
use Rattle.nt_layout.specs.Groups.{range_end, places_beside, list_part, list_parts}
use Rattle.nt_layout.specs.Finished.{range_parts, parts_beside}
use Rattle.nt_layout.specs.Beside.{full_span}
use Rattle.nt_finished.proofs.Standing.{length-blob}
use Rattle.nt_finished.proofs.Arranged.{parts_len}
use Rattle.nt_finished.proofs.Spans.{AreInOrder, order-le}
use Rattle.nt_finished.proofs.Staged.{behind-append, behind-ranges}
use Rattle.nt_finished.proofs.RangeParts.{range_parts-take, range_parts-drop, length-range_parts, take-all, drop-all, index-drop}
use Rattle.nt_finished.proofs.RangeParts.{index-take, spans-len, last-end}

-- these lists are as long as those of these groups
abbrev pub AreNotedOf : ℕ → BookData → List NotedList → List ClusterSpan → Type 0
AreNotedOf sum book [] ss = Unit {0}
AreNotedOf sum book (l ∷ ls) [] = Unit {0}
AreNotedOf sum book (l ∷ ls) (s ∷ ss) = (l.len ≡ list_len sum book s) × AreNotedOf sum book ls ss

-- groups are as large as they can be
abbrev pub AreLarge : ℕ → ℕ → List ClusterSpan → Type 0
AreLarge most n ss = AllByRecursion (λ (s : ClusterSpan). s.count ≡ min most (n - s.from)) ss

pub spans-large : (most n : ℕ) (is : List ℕ) → AreLarge most n (map (cluster_span most n) is)
spans-large most n [] = tt
spans-large most n (i ∷ is) = (refl, spans-large most n is)

none-behind : (k n : ℕ) (ss : List ClusterSpan) → AreInOrder k n ss → k ≡ n → ss ≡ []
none-behind k n [] order is = refl
none-behind k n (s ∷ ss) order is = absurd (omega (arith, order.1, order-le (k + s.count) n ss order.2, is))

module _ (sum : ℕ) (book : BookData) (most : ℕ) (some : 0 < most) where
  -- ranges and the page list behind them, which lists them all
  last-beside : (s : ClusterSpan) (k place : ℕ) (cs : List (Cluster ClusterMeta)) (ranges : List (List ℕ)) → s.from ≡ k → 0 < s.count
      → length cs ≡ s.count → ((j : ℕ) → j < s.count → slice_index_or cs j no_cluster ≡ cluster_at book (k + j))
      → AreBehindSpans place (spans_of cs)
      → map length ranges ≡ map (λ (c : Cluster ClusterMeta). c.len) cs
      → (rest : List Part) → AreBehind (place + spans_len (spans_of cs) + list_len sum book s) rest
      → AreBehind place (range_parts cs ranges ++ (list_part sum book (record {
        place = range_end (cluster_at book (s.from + s.count - 1));
        span = s;
      }) ∷ rest))
  last-beside s k place cs ranges from more long same behind lens rest after =
      let m = s.count - 1 in
      let ends : range_end (slice_index_or cs m no_cluster) ≡ place + spans_len (spans_of cs) =
      last-end place m cs behind (omega (arith, long, more)) in
      let number : k + m ≡ s.from + s.count - 1 = omega (arith, from, more) in
      let here : range_end (cluster_at book (s.from + s.count - 1)) ≡ place + parts_len (range_parts cs ranges) =
      omega (
        arith,
        ends,
        ap (λ (c : Cluster ClusterMeta). range_end c) (same m (omega (arith, more))),
        ap (λ (i : ℕ). range_end (cluster_at book i)) number,
        spans-len cs ranges lens,
      ) in
      let goes : place + spans_len (spans_of cs) + list_len sum book s
      ≡ place + parts_len (range_parts cs ranges)
      + length (list_part sum book (record { place = range_end (cluster_at book (s.from + s.count - 1)); span = s })).bytes =
      omega (
        arith,
        spans-len cs ranges lens,
        length-blob (range_end (cluster_at book (s.from + s.count - 1))) (list_object sum book s),
      ) in
      behind-append place (range_parts cs ranges) _ (behind-ranges place cs ranges behind lens)
      (here, subst (λ (i : ℕ). AreBehind i rest) goes after)

  pub beside-from : (ss : List ClusterSpan) (k place : ℕ) (cs : List (Cluster ClusterMeta)) (ranges : List (List ℕ)) (ls : List NotedList)
      → AreInOrder k (length (book_clusters book)) ss → AreLarge most (length (book_clusters book)) ss
      → cs ≡ drop k (book_clusters book) → length cs + k ≡ length (book_clusters book)
      → map length ranges ≡ map (λ (c : Cluster ClusterMeta). c.len) cs → length ranges ≡ length cs
      → AreBeside place most ls (spans_of cs)
      → k + clusters_listed most ls ≤ length (book_clusters book) → length (book_clusters book) ≤ k + clusters_listed most ls + most
      → AreNotedOf sum book ls ss
      → AreBehind place (parts_beside sum book (places_beside book ss) (range_parts cs ranges))
  beside-from [] k place cs ranges [] order large is all lens same beside listed few noted =
      behind-ranges place cs ranges beside lens
  beside-from [] k place cs ranges (l ∷ ls) order large is all lens same beside listed few noted =
      absurd (omega (arith, order, listed, some))
  beside-from (s ∷ ss) k place cs ranges [] order large is all lens same beside listed few noted =
      let n = length (book_clusters book) in
      let from = order.0 in
      let more = order.1 in
      let count : s.count ≡ n - k = omega (arith, large.0, from, few) in
      let long : s.count ≡ length cs = omega (arith, count, all) in
      let parts : s.count ≡ length (range_parts cs ranges) = omega (arith, long, length-range_parts cs ranges same) in
      let none : ss ≡ [] = none-behind (k + s.count) n ss order.2 (omega (arith, long, all)) in
      let at : (j : ℕ) → j < s.count → slice_index_or cs j no_cluster ≡ cluster_at book (k + j) =
      λ j less. ap (λ (l : List (Cluster ClusterMeta)). slice_index_or l j no_cluster) is ∙ index-drop k j (book_clusters book) in
      let p = list_part sum book (record { place = range_end (cluster_at book (s.from + s.count - 1)); span = s }) in
      let shape : parts_beside sum book (places_beside book (s ∷ ss)) (range_parts cs ranges) ≡ range_parts cs ranges ++ (p ∷ []) =
      ap (λ (f : List Part). f ++ (p ∷ parts_beside sum book (places_beside book ss) (drop s.count (range_parts cs ranges))))
      (take-all s.count (range_parts cs ranges) parts)
      ∙ (ap (λ (b : List Part). range_parts cs ranges ++ (p ∷ parts_beside sum book (places_beside book ss) b))
      (drop-all s.count (range_parts cs ranges) parts)
      ∙ ap (λ (l : List ClusterSpan). range_parts cs ranges ++ (p ∷ parts_beside sum book (places_beside book l) [])) none) in
      subst (λ (l : List Part). AreBehind place l) (sym shape)
      (last-beside s k place cs ranges from more (sym long) at beside lens [] tt)
  beside-from (s ∷ ss) k place cs ranges (l ∷ ls) order large is all lens same beside listed few noted =
      let n = length (book_clusters book) in
      let from = order.0 in
      let more = order.1 in
      let count : s.count ≡ most = omega (arith, large.0, from, listed) in
      let fit : s.count ≤ length cs = omega (arith, count, all, listed) in
      let front = take s.count cs in
      let back = drop s.count cs in
      let spans-front : take most (spans_of cs) ≡ spans_of front =
      ap (λ (i : ℕ). take i (spans_of cs)) (sym count)
      ∙ take-map (λ (c : Cluster ClusterMeta). record { start = c.start; len = c.len }) s.count cs in
      let spans-back : drop most (spans_of cs) ≡ spans_of back =
      ap (λ (i : ℕ). drop i (spans_of cs)) (sym count)
      ∙ drop-map (λ (c : Cluster ClusterMeta). record { start = c.start; len = c.len }) s.count cs in
      let lens-front : map length (take s.count ranges) ≡ map (λ (c : Cluster ClusterMeta). c.len) front =
      sym (take-map (length {A = ℕ}) s.count ranges)
      ∙ (ap (λ (ns : List ℕ). take s.count ns) lens ∙ take-map (λ (c : Cluster ClusterMeta). c.len) s.count cs) in
      let lens-back : map length (drop s.count ranges) ≡ map (λ (c : Cluster ClusterMeta). c.len) back =
      sym (drop-map (length {A = ℕ}) s.count ranges)
      ∙ (ap (λ (ns : List ℕ). drop s.count ns) lens ∙ drop-map (λ (c : Cluster ClusterMeta). c.len) s.count cs) in
      let at : (j : ℕ) → j < s.count → slice_index_or front j no_cluster ≡ cluster_at book (k + j) =
      λ j less. index-take s.count j cs less
      ∙ (ap (λ (l : List (Cluster ClusterMeta)). slice_index_or l j no_cluster) is ∙ index-drop k j (book_clusters book)) in
      let behind : AreBehindSpans place (spans_of front) = subst (λ (l : List Span). AreBehindSpans place l) spans-front beside.0 in
      let place-after : place + spans_len (take most (spans_of cs)) + l.len ≡ place + spans_len (spans_of front) + list_len sum book s =
      omega (arith, ap (λ (l : List Span). spans_len l) spans-front, noted.0) in
      let beside-after : AreBeside (place + spans_len (spans_of front) + list_len sum book s) most ls (spans_of back) =
      subst (λ (i : ℕ). AreBeside i most ls (spans_of back)) place-after
      (subst (λ (r : List Span). AreBeside (place + spans_len (take most (spans_of cs)) + l.len) most ls r) spans-back beside.1) in
      let rest = parts_beside sum book (places_beside book ss) (range_parts back (drop s.count ranges)) in
      let goes : AreBehind (place + spans_len (spans_of front) + list_len sum book s) rest =
      beside-from ss (k + s.count) (place + spans_len (spans_of front) + list_len sum book s) back (drop s.count ranges) ls order.2 large.1
      (ap (λ (l : List (Cluster ClusterMeta)). drop s.count l) is ∙ drop-drop s.count k (book_clusters book))
      (omega (arith, length-drop s.count cs, all, fit)) lens-back
      (omega (arith, length-drop s.count cs, length-drop s.count ranges, same)) beside-after (omega (arith, listed, count))
      (omega (arith, few, count)) noted.1 in
      let p = list_part sum book (record { place = range_end (cluster_at book (s.from + s.count - 1)); span = s }) in
      let shape : parts_beside sum book (places_beside book (s ∷ ss)) (range_parts cs ranges)
      ≡ range_parts front (take s.count ranges) ++ (p ∷ rest) =
      ap (λ (f : List Part). f ++ (p ∷ parts_beside sum book (places_beside book ss) (drop s.count (range_parts cs ranges))))
      (range_parts-take s.count cs ranges same)
      ∙ ap (λ (b : List Part). range_parts front (take s.count ranges) ++ (p ∷ parts_beside sum book (places_beside book ss) b))
      (range_parts-drop s.count cs ranges same) in
      subst (λ (l : List Part). AreBehind place l) (sym shape)
      (last-beside s k place front (take s.count ranges) from more (omega (arith, length-take s.count cs, fit)) at behind lens-front rest
      goes)

  -- the lists that are left stand behind all the rest
  pub left-behind : (ss : List ClusterSpan) (k : ℕ) (ps : List Part) (ls : List NotedList)
      → AreInOrder k (length (book_clusters book)) ss → AreLarge most (length (book_clusters book)) ss
      → length ps + k ≡ length (book_clusters book)
      → k + clusters_listed most ls ≤ length (book_clusters book) → length (book_clusters book) ≤ k + clusters_listed most ls + most
      → parts_beside sum book (places_beside book ss) ps
      ≡ parts_beside sum book (take (length ls) (places_beside book ss)) ps
      ++ list_parts sum book (drop (length ls) (places_beside book ss))
  left-behind [] k ps [] order large all listed few = sym (append-nil ps)
  left-behind [] k ps (l ∷ ls) order large all listed few = absurd (omega (arith, order, listed, some))
  left-behind (s ∷ ss) k ps [] order large all listed few =
      let n = length (book_clusters book) in
      let long : s.count ≡ length ps = omega (arith, large.0, order.0, few, all) in
      let none : ss ≡ [] = none-behind (k + s.count) n ss order.2 (omega (arith, long, all)) in
      let p = list_part sum book (record { place = range_end (cluster_at book (s.from + s.count - 1)); span = s }) in
      ap (λ (f : List Part). f ++ (p ∷ parts_beside sum book (places_beside book ss) (drop s.count ps))) (take-all s.count ps long)
      ∙ (ap (λ (b : List Part). ps ++ (p ∷ parts_beside sum book (places_beside book ss) b)) (drop-all s.count ps long)
      ∙ (ap (λ (l : List ClusterSpan). ps ++ (p ∷ parts_beside sum book (places_beside book l) [])) none
      ∙ sym (ap (λ (l : List ClusterSpan). ps ++ (p ∷ list_parts sum book (places_beside book l))) none)))
  left-behind (s ∷ ss) k ps (l ∷ ls) order large all listed few =
      let count : s.count ≡ most = omega (arith, large.0, order.0, listed) in
      let p = list_part sum book (record { place = range_end (cluster_at book (s.from + s.count - 1)); span = s }) in
      let front = take s.count ps in
      let back = drop s.count ps in
      ap (λ (r : List Part). front ++ (p ∷ r))
      (left-behind ss (k + s.count) back ls order.2 large.1 (omega (arith, length-drop s.count ps, all, count, listed))
      (omega (arith, listed, count)) (omega (arith, few, count)))
      ∙ sym (append_assoc front (p ∷ parts_beside sum book (take (length ls) (places_beside book ss)) back)
      (list_parts sum book (drop (length ls) (places_beside book ss))))

  -- the lists that are noted are as long as the groups from the i-th on say
  pub noted-of : (n i m : ℕ) (ls : List NotedList)
      → ((k : ℕ) → k < length ls → (slice_index_or ls k no_noted).len ≡ list_len sum book (full_span most (i + k)))
      → i * most + clusters_listed most ls ≤ n → AreNotedOf sum book ls (map (cluster_span most n) (range_with_len i m))
  noted-of n i m [] noted fit = tt
  noted-of n i zero (l ∷ ls) noted fit = tt
  noted-of n i (suc m) (l ∷ ls) noted fit =
      let same : i + 0 ≡ i = omega arith in
      let full : most ≡ min most (n - i * most) = omega (arith, fit) in
      let next : (i + 1) * most ≡ i * most + most = rw (add-one i, suc-mul i most) refl in (
        noted 0 (omega arith)
            ∙ (ap (λ (j : ℕ). list_len sum book (full_span most j)) same
            ∙ ap (λ (c : ℕ). list_len sum book (record { from = i * most; count = c })) full),
        noted-of n (i + 1) m ls
            (λ k less. noted (suc k) (omega (arith, less))
            ∙ ap (λ (j : ℕ). list_len sum book (full_span most j)) (omega arith))
            (omega (arith, fit, next)),
      )
