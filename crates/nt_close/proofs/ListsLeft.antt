-- The page lists that are left, as they are made, one group after the other.
use Rattle.std.proofs.Common.{◌≡◌, ◌∙◌, ℕ, zero, suc, ◌+◌, ◌-◌, ◌*◌, ◌<◌, ◌≤◌, min, List, [], ◌∷◌, ◌++◌, map, length, drop}
use Rattle.std.proofs.Common.{refl, ap, sym, subst, arith, append_assoc, append-nil, add-one, suc-mul, mul-le-mul_right}
use Rattle.std.proofs.Math.Nat.{mul-le-mul_left}
use Rattle.std.proofs.lemmas.Grind.{div_ceil_times}
use Rattle.std.proofs.lemmas.List.{length-append, length-drop, length-map}
use Rattle.std.proofs.lemmas.List.FromFn.{length-range_with_len}
use Rattle.std.specs.Int.{div_ceil}
use Rattle.std.specs.List.{concat, range_with_len}
use Rattle.nt_book.specs.declared.limits.Limits.{Limits}
use Rattle.nt_book.specs.declared.list.NotedList.{NotedList}
use Rattle.nt_book.specs.Books.{BookData, book_end}
use Rattle.nt_book.specs.Kept.{IsBookKept}
use Rattle.nt_pagelists.specs.declared.group.Group.{Group}
use Rattle.nt_pagelists.specs.Blobs.{blob}
use Rattle.nt_pagelists.specs.Objects.{ClusterSpan, cluster_span, group_spans, list_object, list_len}
use Rattle.nt_lists.specs.Parts.{part_bytes}
use Rattle.nt_layout.specs.Groups.{PlacedList, list_parts, list_groups, lists_from, groups_from, span_group, places_behind}
use Rattle.nt_layout.specs.Finished.{spans}
use Rattle.nt_finished.proofs.Spans.{order-le}
use Rattle.nt_close.specs.declared.error.CloseError.{CloseError}
use Rattle.nt_close.specs.Passing.{first_passed}
use Rattle.nt_close.specs.Making.{CanBeListed, left_lens, spans_left, list_lens, noted_groups, AddsList, AddsLists}
use Rattle.nt_close.specs.Making.{AreListsLeft, IsPassed, IsPassedBy, ArePassedBy, NonePassed}
use Rattle.nt_close.proofs.Fitting.{blob_length, fitting-first}
use Rattle.nt_close.proofs.Left.{all, in-order, listed-fit, left-places}

-- ---- the groups that are noted

-- the groups of the first lists are made: with those of the others they are all
abbrev pub AreMade : BookData → ℕ → ℕ → List Group → Type 0
AreMade book most k made =
    made ++ noted_groups book most (k * most) (drop k book.lists) ≡ noted_groups book most 0 book.lists

length-noted : (book : BookData) (most from : ℕ) (ls : List NotedList) → length (noted_groups book most from ls) ≡ length ls
length-noted book most from [] = refl
length-noted book most from (l ∷ ls) = omega (arith, length-noted book most (from + most) ls)

-- ---- one group after the other

-- where there is a group of this number, it has a first cluster
pub begins-below : (most n k : ℕ) → 0 < most → k < div_ceil n most → k * most < n
begins-below most n k some less =
    let next : (k + 1) * most ≡ k * most + most = rw (add-one k, suc-mul k most) refl in
    let below : (k + 1) * most ≤ div_ceil n most * most = mul-le-mul_right most (omega (arith, less)) in
    omega (arith, next, below, (div_ceil_times n most some).1)

spans-from : (most n i m k : ℕ) → k < m
    → drop k (map (cluster_span most n) (range_with_len i m))
    ≡ cluster_span most n (i + k) ∷ drop (k + 1) (map (cluster_span most n) (range_with_len i m))
spans-from most n i zero k less = absurd (omega (arith, less))
spans-from most n i (suc m) zero less =
    let same : i ≡ i + 0 = omega arith in
    ap (λ (j : ℕ). cluster_span most n j ∷ map (cluster_span most n) (range_with_len (i + 1) m)) same
spans-from most n i (suc m) (suc k) less =
    let ss = map (cluster_span most n) (range_with_len (i + 1) m) in
    let same : i + 1 + k ≡ i + suc k = omega arith in
    let next : suc (k + 1) ≡ suc k + 1 = omega arith in
    spans-from most n (i + 1) m k (omega (arith, less))
    ∙ (ap (λ (j : ℕ). cluster_span most n j ∷ drop (k + 1) ss) same
    ∙ ap (λ (d : ℕ). cluster_span most n (i + suc k) ∷ drop d (cluster_span most n i ∷ ss)) next)

-- the clusters of one group
abbrev pub span_from : ℕ → ℕ → ℕ → ClusterSpan
span_from most n from = record { from = from; count = from + min most (n - from) - from }

-- a group, and those behind it
pub next-group : (most n k : ℕ) → k < div_ceil n most
    → drop k (group_spans most n) ≡ span_from most n (k * most) ∷ drop (k + 1) (group_spans most n)
next-group most n k less =
    let same : 0 + k ≡ k = omega arith in
    let count : min most (n - k * most) ≡ k * most + min most (n - k * most) - k * most = omega arith in
    spans-from most n 0 (div_ceil n most) k less
    ∙ (ap (λ (i : ℕ). cluster_span most n i ∷ drop (k + 1) (group_spans most n)) same
    ∙ ap (λ (c : ℕ). record { from = k * most; count = c } ∷ drop (k + 1) (group_spans most n)) count)

-- behind all groups there is none
pub no-group : (most n k : ℕ) → div_ceil n most ≤ k → drop k (group_spans most n) ≡ []
no-group most n k more =
    none k (group_spans most n)
    (omega (
      arith,
      length-map (range_with_len 0 (div_ceil n most)) (cluster_span most n),
      length-range_with_len 0 (div_ceil n most),
      more,
    ))
  where
    none : (i : ℕ) (ss : List ClusterSpan) → length ss ≤ i → drop i ss ≡ []
    none zero [] le = refl
    none zero (s ∷ ss) le = absurd (omega (arith, le))
    none (suc i) [] le = refl
    none (suc i) (s ∷ ss) le = none i ss (omega (arith, le))

-- what stands now, with the page lists of the groups in the rest behind it, is what stood, with those of all these groups behind it
pub record LeadsTo (sum : ℕ) (book : BookData) (limits : Limits) (ss rest : List ClusterSpan) (old now : List ℕ)
    (groups more : List Group) : Type 0 where
  pub bytes : now ++ concat (lists_from sum book (book_end book + length now) rest)
      ≡ old ++ concat (lists_from sum book (book_end book + length old) ss)
  pub group : more ++ groups_from sum book (book_end book + length now) rest
      ≡ groups ++ groups_from sum book (book_end book + length old) ss
  pub passed : (lens : List ℕ) (end : ℕ) → first_passed limits (list_lens sum book ss ++ lens) end
      ≡ first_passed limits (list_lens sum book rest ++ lens) end

module _ (sum : ℕ) (book : BookData) (limits : Limits) (ss : List ClusterSpan) (old : List ℕ) (groups : List Group) where
  pub at-first : LeadsTo sum book limits ss ss old old groups groups
  at-first = record { bytes = refl; group = refl; passed = λ lens end. refl }

  module _ (now : List ℕ) (more : List Group) (s : ClusterSpan) (from rest : List ClusterSpan) (is : from ≡ s ∷ rest)
      (leads : LeadsTo sum book limits ss from old now groups more) where
    -- where the next page list begins
    abbrev place : ℕ
    place = book_end book + length now

    pub one-more : (new : List ℕ) (next : List Group) → AddsList sum book s now new more next → list_len sum book s ≤ limits.range
        → LeadsTo sum book limits ss rest old new groups next
    one-more new next adds fits =
        let object = list_object sum book s in
        let after : book_end book + length new ≡ place + list_len sum book s =
        omega (arith, ap length adds.bytes, length-append now (blob place object), blob_length place object) in
        let behind = place + list_len sum book s in
        record {
          bytes = ap (λ (e : ℕ). new ++ concat (lists_from sum book e rest)) after
              ∙ (ap (λ (l : List ℕ). l ++ concat (lists_from sum book behind rest)) adds.bytes
              ∙ (append_assoc now (blob place object) (concat (lists_from sum book behind rest))
              ∙ (ap (λ (r : List ClusterSpan). now ++ concat (lists_from sum book place r)) (sym is) ∙ leads.bytes)));
          group = ap (λ (e : ℕ). next ++ groups_from sum book e rest) after
              ∙ (ap (λ (l : List Group). l ++ groups_from sum book behind rest) adds.group
              ∙ (append_assoc more (span_group sum book place s ∷ []) (groups_from sum book behind rest)
              ∙ (ap (λ (r : List ClusterSpan). more ++ groups_from sum book place r) (sym is) ∙ leads.group)));
          passed = λ lens end.
              leads.passed lens end
              ∙ (ap (λ (r : List ClusterSpan). first_passed limits (list_lens sum book r ++ lens) end) is
              ∙ fitting-first limits (list_len sum book s) (list_lens sum book rest ++ lens) end fits);
        }

    -- the next one passes a limit
    pub next-passed : (e : CloseError) → IsPassedBy limits (list_len sum book s) e → ArePassedBy limits (list_lens sum book ss) e
    next-passed e passed lens end =
        subst (λ (p : _). IsPassed p e)
        (sym (leads.passed lens end ∙ ap (λ (r : List ClusterSpan). first_passed limits (list_lens sum book r ++ lens) end) is))
        (passed (list_lens sum book rest ++ lens) end)

  module _ (now : List ℕ) (more : List Group) (rest : List ClusterSpan) (none : rest ≡ [])
      (leads : LeadsTo sum book limits ss rest old now groups more) where
    pub all-added : AddsLists sum book ss old now groups more
    all-added = record {
      bytes = sym (append-nil now)
          ∙ (ap (λ (r : List ClusterSpan). now ++ concat (lists_from sum book (book_end book + length now) r)) (sym none) ∙ leads.bytes);
      group = sym (append-nil more)
          ∙ (ap (λ (r : List ClusterSpan). more ++ groups_from sum book (book_end book + length now) r) (sym none) ∙ leads.group);
    }

    pub all-fit : NonePassed limits (list_lens sum book ss)
    all-fit lens end =
        leads.passed lens end ∙ ap (λ (r : List ClusterSpan). first_passed limits (list_lens sum book r ++ lens) end) none

-- ---- the lists that are left

module _ (sum most : ℕ) (book : BookData) (kept : IsBookKept book) (can : CanBeListed book most sum) where
  -- the lengths of lists, wherever they stand
  lens-behind : (start : ℕ) (ss : List ClusterSpan)
      → map (λ (l : PlacedList). list_len sum book l.span) (places_behind sum book start ss) ≡ list_lens sum book ss
  lens-behind start [] = refl
  lens-behind start (s ∷ ss) = ap (λ (l : List ℕ). list_len sum book s ∷ l) (lens-behind (start + list_len sum book s) ss)

  pub lens-left : list_lens sum book (spans_left book most) ≡ left_lens sum book most
  lens-left =
      sym (ap (map (λ (l : PlacedList). list_len sum book l.span)) (left-places sum most book kept can)
      ∙ lens-behind (book_end book) (spans_left book most))

  length-groups : (start : ℕ) (ss : List ClusterSpan) → length (groups_from sum book start ss) ≡ length ss
  length-groups start [] = refl
  length-groups start (s ∷ ss) = omega (arith, length-groups (start + list_len sum book s) ss)

  -- no list is listed twice
  few-lists : length book.lists ≤ length book.lists * most
  few-lists = omega (arith, mul-le-mul_left {m = 1} (length book.lists) can.some)

  pub lists-left : (old new : List ℕ) (groups more : List Group) → old ≡ [] → groups ≡ noted_groups book most 0 book.lists
      → AddsLists sum book (spans_left book most) old new groups more → AreListsLeft sum book most new more
  lists-left old new groups more empty are adds =
      let place : book_end book + length old ≡ book_end book = omega (arith, ap length empty) in
      let left = spans_left book most in
      let same = sym (left-places sum most book kept can) in
      record {
        bytes_are = adds.bytes
            ∙ (ap (λ (l : List ℕ). l ++ concat (lists_from sum book (book_end book + length old) left)) empty
            ∙ (ap (λ (e : ℕ). concat (lists_from sum book e left)) place
            ∙ ap (λ (ls : List PlacedList). concat (part_bytes (list_parts sum book ls))) same));
        groups_are = adds.group
            ∙ (ap (λ (gs : List Group). gs ++ groups_from sum book (book_end book + length old) left) are
            ∙ (ap (λ (e : ℕ). noted_groups book most 0 book.lists ++ groups_from sum book e left) place
            ∙ ap (λ (ls : List PlacedList). noted_groups book most 0 book.lists ++ list_groups sum book ls) same));
        few = omega (
          arith,
          ap length adds.group,
          length-append groups (groups_from sum book (book_end book + length old) left),
          length-groups (book_end book + length old) left,
          ap length are,
          length-noted book most 0 book.lists,
          length-drop (length book.lists) (spans book most),
          order-le 0 (all sum most book kept can) (spans book most) (in-order sum most book kept can),
          few-lists,
          listed-fit sum most book kept can,
          kept.few,
          kept.fewer,
        );
      }
