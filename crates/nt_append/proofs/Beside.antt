-- Ranges with page lists between them, and one range or one list more.
use Rattle.std.proofs.Common.{◌≡◌, ◌∙◌, ap, sym, refl, ℕ, zero, suc, ◌+◌, ◌-◌, ◌*◌, ◌<◌, ◌≤◌, min, List, [], ◌∷◌, ◌++◌, map, length, take}
use Rattle.std.proofs.Common.{drop, append_assoc, arith, subst, suc-mul, add-one}
use Rattle.std.specs.Prelude.{slice_index_or}
use Rattle.std.specs.List.{range_with_len, sum_by}
use Rattle.std.proofs.lemmas.List.{length-drop, take-append-le, drop-append-le, drop-map, take-append-drop}
use Rattle.std.proofs.lemmas.List.Sums.{sum_by-append, sum_by-cons}
use Rattle.nt_lists.specs.Parts.{Part}
use Rattle.nt_machine.specs.History.{Cluster}
use Rattle.nt_machine.specs.Legal.{spans_of}
use Rattle.nt_machine.specs.Spans.{Span, AreBehindSpans}
use Rattle.nt_book.specs.declared.list.NotedList.{NotedList}
use Rattle.nt_book.specs.declared.meta.ClusterMeta.{ClusterMeta}
use Rattle.nt_book.specs.Books.{BookData, no_cluster}
use Rattle.nt_book.specs.Listing.{AreBeside, clusters_listed, lists_bytes, spans_len}
use Rattle.nt_pagelists.specs.Objects.{cluster_span}
use Rattle.nt_layout.specs.Groups.{place_beside, places_beside, list_part, range_end}
use Rattle.nt_layout.specs.Finished.{parts_beside, range_parts}
use Rattle.nt_finished.proofs.RangeParts.{take-all, drop-all, index-drop, last-end}

-- ranges, and behind the last one of each of the first groups its page list; the first group begins with this cluster
abbrev pub with_lists : (ℕ → Part) → ℕ → ℕ → List NotedList → List Part → List Part
with_lists list most from [] ps = ps
with_lists list most from (l ∷ ls) ps = take most ps ++ (list from ∷ with_lists list most (from + most) ls (drop most ps))

module _ (most : ℕ) where
  -- the same lists
  pub lists-same : (P Q : ℕ → Part) (from : ℕ) (ls : List NotedList) (ps : List Part)
      → ((j : ℕ) → j + most ≤ from + clusters_listed most ls → P j ≡ Q j) → with_lists P most from ls ps ≡ with_lists Q most from ls ps
  lists-same P Q from [] ps same = refl
  lists-same P Q from (l ∷ ls) ps same =
      ap (λ (p : Part). take most ps ++ (p ∷ with_lists P most (from + most) ls (drop most ps))) (same from (omega arith))
      ∙ ap (λ (r : List Part). take most ps ++ (Q from ∷ r))
      (lists-same P Q (from + most) ls (drop most ps) (λ j le. same j (omega (arith, le))))

  -- one range more
  pub range-more : (P : ℕ → Part) (from : ℕ) (ls : List NotedList) (ps : List Part) (x : Part) → clusters_listed most ls ≤ length ps
      → with_lists P most from ls (ps ++ x ∷ []) ≡ with_lists P most from ls ps ++ x ∷ []
  range-more P from [] ps x le = refl
  range-more P from (l ∷ ls) ps x le =
      ap (λ (f : List Part). f ++ (P from ∷ with_lists P most (from + most) ls (drop most (ps ++ x ∷ []))))
      (take-append-le most ps (x ∷ []) (omega (arith, le)))
      ∙ (ap (λ (b : List Part). take most ps ++ (P from ∷ with_lists P most (from + most) ls b))
      (drop-append-le most ps (x ∷ []) (omega (arith, le)))
      ∙ (ap (λ (r : List Part). take most ps ++ (P from ∷ r))
      (range-more P (from + most) ls (drop most ps) x (omega (arith, le, length-drop most ps)))
      ∙ sym (append_assoc (take most ps) (P from ∷ with_lists P most (from + most) ls (drop most ps)) (x ∷ []))))

  -- one list more, behind a group that had none
  pub list-more : (P : ℕ → Part) (from : ℕ) (ls : List NotedList) (l : NotedList) (ps : List Part)
      → clusters_listed most ls + most ≡ length ps
      → with_lists P most from (ls ++ l ∷ []) ps ≡ with_lists P most from ls ps ++ P (from + clusters_listed most ls) ∷ []
  list-more P from [] l ps is =
      let here : from ≡ from + 0 = omega arith in
      ap (λ (f : List Part). f ++ (P from ∷ drop most ps)) (take-all most ps (omega (arith, is)))
      ∙ (ap (λ (b : List Part). ps ++ (P from ∷ b)) (drop-all most ps (omega (arith, is)))
      ∙ ap (λ (n : ℕ). ps ++ P n ∷ []) here)
  list-more P from (k ∷ ls) l ps is =
      let next : from + most + clusters_listed most ls ≡ from + (most + clusters_listed most ls) = omega arith in
      ap (λ (r : List Part). take most ps ++ (P from ∷ r))
      (list-more P (from + most) ls l (drop most ps) (omega (arith, is, length-drop most ps)))
      ∙ (sym (append_assoc (take most ps) (P from ∷ with_lists P most (from + most) ls (drop most ps))
      (P (from + most + clusters_listed most ls) ∷ []))
      ∙ ap (λ (n : ℕ). (take most ps ++ (P from ∷ with_lists P most (from + most) ls (drop most ps))) ++ P n ∷ []) next)

-- the page list of the full group that begins with this cluster
abbrev pub group_part : ℕ → BookData → ℕ → ℕ → Part
group_part sum book most from = list_part sum book (place_beside book (record { from = from; count = most }))

-- so it is with the lists of the first groups of a book
pub parts-from : (sum : ℕ) (book : BookData) (most n i m : ℕ) (ls : List NotedList) (ps : List Part)
    → i * most + clusters_listed most ls ≤ n → length ls ≤ m
    → parts_beside sum book (take (length ls) (places_beside book (map (cluster_span most n) (range_with_len i m)))) ps
    ≡ with_lists (group_part sum book most) most (i * most) ls ps
parts-from sum book most n i m [] ps le few = refl
parts-from sum book most n i zero (l ∷ ls) ps le few = absurd (omega (arith, few))
parts-from sum book most n i (suc m) (l ∷ ls) ps le few =
    let full : min most (n - i * most) ≡ most = omega (arith, le) in
    let next : (i + 1) * most ≡ i * most + most = rw (add-one i, suc-mul i most) refl in
    ap (λ (c : ℕ). take c ps ++ (list_part sum book (place_beside book (record { from = i * most; count = c })) ∷ parts_beside sum book
    (take (length ls) (places_beside book (map (cluster_span most n) (range_with_len (i + 1) m)))) (drop c ps))) full
    ∙ ap (λ (r : List Part). take most ps ++ (group_part sum book most (i * most) ∷ r))
    (parts-from sum book most n (i + 1) m ls (drop most ps) (omega (arith, le, next)) (omega (arith, few))
    ∙ ap (λ (k : ℕ). with_lists (group_part sum book most) most k ls (drop most ps)) next)

-- ---- where the last range ends

-- the bytes of ranges behind each other
pub spans_len-ranges : (cs : List (Cluster ClusterMeta)) → spans_len (spans_of cs) ≡ sum_by (λ (c : Cluster ClusterMeta). c.len) cs
spans_len-ranges [] = refl
spans_len-ranges (c ∷ cs) =
    omega (
      arith,
      spans_len-ranges cs,
      sum_by-cons (λ (s : Span). s.len) (record { start = c.start; len = c.len }) (spans_of cs),
      sum_by-cons (λ (d : Cluster ClusterMeta). d.len) c cs,
    )

spans_len-split : (n : ℕ) (spans : List Span) → spans_len (take n spans) + spans_len (drop n spans) ≡ spans_len spans
spans_len-split n spans =
    sym (sum_by-append (λ (s : Span). s.len) (take n spans) (drop n spans))
    ∙ ap (λ (l : List Span). spans_len l) (take-append-drop n spans)

-- if it has no list behind it
pub last-beside : (place most : ℕ) (ls : List NotedList) (cs : List (Cluster ClusterMeta)) (k : ℕ)
    → AreBeside place most ls (spans_of cs) → clusters_listed most ls ≤ k → length cs ≡ suc k
    → range_end (slice_index_or cs k no_cluster) ≡ place + spans_len (spans_of cs) + lists_bytes ls
last-beside place most [] cs k beside le is = omega (arith, last-end place k cs beside is)
last-beside place most (l ∷ ls) cs k beside le is =
    let back = drop most cs in
    let same : drop most (spans_of cs) ≡ spans_of back =
    drop-map (λ (c : Cluster ClusterMeta). record { start = c.start; len = c.len }) most cs in
    let next = place + spans_len (take most (spans_of cs)) + l.len in
    let rest : AreBeside next most ls (spans_of back) = subst (λ (s : List Span). AreBeside next most ls s) same beside.1 in
    let here : most + (k - most) ≡ k = omega (arith, le) in
    let ends = last-beside next most ls back (k - most) rest (omega (arith, le)) (omega (arith, is, le, length-drop most cs)) in
    omega (
      arith,
      ends,
      ap (λ (c : Cluster ClusterMeta). range_end c) (index-drop most (k - most) cs),
      ap (λ (j : ℕ). range_end (slice_index_or cs j no_cluster)) here,
      ap (λ (s : List Span). spans_len s) same,
      spans_len-split most (spans_of cs),
      sum_by-cons (λ (j : NotedList). j.len) l ls,
    )

-- ---- one range more

pub range_parts-more : (cs : List (Cluster ClusterMeta)) (ranges : List (List ℕ)) (c : Cluster ClusterMeta) (range : List ℕ)
    → length ranges ≡ length cs
    → range_parts (cs ++ c ∷ []) (ranges ++ range ∷ []) ≡ range_parts cs ranges ++ record { place = c.start; bytes = range } ∷ []
range_parts-more [] [] c range same = refl
range_parts-more [] (r ∷ ranges) c range same = absurd (omega (arith, same))
range_parts-more (d ∷ cs) [] c range same = absurd (omega (arith, same))
range_parts-more (d ∷ cs) (r ∷ ranges) c range same =
    ap (λ (ps : List Part). record { place = d.start; bytes = r } ∷ ps) (range_parts-more cs ranges c range (omega (arith, same)))

pub index-front : (cs : List (Cluster ClusterMeta)) (c : Cluster ClusterMeta) (k : ℕ) → k < length cs
    → slice_index_or (cs ++ c ∷ []) k no_cluster ≡ slice_index_or cs k no_cluster
index-front [] c k less = absurd (omega (arith, less))
index-front (d ∷ cs) c zero less = refl
index-front (d ∷ cs) c (suc k) less = index-front cs c k (omega (arith, less))

pub noted-front : (ls : List NotedList) (l d : NotedList) (k : ℕ) → k < length ls
    → slice_index_or (ls ++ l ∷ []) k d ≡ slice_index_or ls k d
noted-front [] l d k less = absurd (omega (arith, less))
noted-front (j ∷ ls) l d zero less = refl
noted-front (j ∷ ls) l d (suc k) less = noted-front ls l d k (omega (arith, less))

pub noted-last : (ls : List NotedList) (l d : NotedList) (k : ℕ) → k ≡ length ls → slice_index_or (ls ++ l ∷ []) k d ≡ l
noted-last [] l d zero is = refl
noted-last [] l d (suc k) is = absurd (omega (arith, is))
noted-last (j ∷ ls) l d zero is = absurd (omega (arith, is))
noted-last (j ∷ ls) l d (suc k) is = noted-last ls l d k (omega (arith, is))
