-- The page lists that a book notes, among those of all its groups.
use Rattle.std.proofs.Common.{◌≡◌, ◌∙◌, ℕ, suc, ◌+◌, ◌*◌, ◌<◌, ◌≤◌, Bool, true, false, List, [], ◌∷◌, ◌++◌, length, take, drop}
use Rattle.std.proofs.Common.{refl, ap, sym, subst, arith, suc-mul, add-one}
use Rattle.std.specs.Prelude.{slice_index_or}
use Rattle.std.specs.List.{sum_by}
use Rattle.std.proofs.lemmas.List.{map-append, take-append-drop}
use Rattle.std.proofs.lemmas.List.Sums.{sum_by-append, sum_by-cons}
use Rattle.nt_book.specs.declared.list.NotedList.{NotedList}
use Rattle.nt_book.specs.Books.{BookData}
use Rattle.nt_book.specs.Kept.{IsBookKept}
use Rattle.nt_book.specs.Listing.{clusters_listed, lists_bytes, no_noted}
use Rattle.nt_grammar.specs.Table.{Table}
use Rattle.nt_pagelists.specs.declared.group.Group.{Group}
use Rattle.nt_pagelists.specs.Objects.{ClusterSpan, list_len}
use Rattle.nt_layout.specs.Headers.{header_sum}
use Rattle.nt_layout.specs.Groups.{PlacedList, place_beside, places_beside, list_group, list_groups}
use Rattle.nt_layout.specs.Finished.{spans, list_places, groups}
use Rattle.nt_layout.specs.Beside.{full_span}
use Rattle.nt_finished.proofs.Spans.{AreInOrder}
use Rattle.nt_finished.proofs.BesideLists.{AreLarge}
use Rattle.nt_close.specs.Filled.{IsNotedOf}
use Rattle.nt_close.specs.Making.{CanBeListed, left_lists, noted_group, noted_groups}
use Rattle.nt_close.proofs.Left.{span-is, listed-times, in-order, large, listed-fit, none-noted, all}

module _ (sum : ℕ) (book : BookData) (most n : ℕ) (some : 0 < most) where
  -- the notes of groups from the i-th on
  abbrev pub AreNotes : ℕ → List NotedList → Type 0
  AreNotes i ls = (j : ℕ) → j < length ls → IsNotedOf sum book (full_span most (i + j)) (slice_index_or ls j no_noted)

  first-note : (i : ℕ) (l : NotedList) (ls : List NotedList) → AreNotes i (l ∷ ls) → IsNotedOf sum book (full_span most i) l
  first-note i l ls noted =
      let same : i + 0 ≡ i = omega arith in
      subst (λ (j : ℕ). IsNotedOf sum book (full_span most j) l) same (noted 0 (omega arith))

  other-notes : (i : ℕ) (l : NotedList) (ls : List NotedList) → AreNotes i (l ∷ ls) → AreNotes (i + 1) ls
  other-notes i l ls noted =
      λ j less.
      let same : i + suc j ≡ i + 1 + j = omega arith in
      subst (λ (k : ℕ). IsNotedOf sum book (full_span most k) (slice_index_or ls j no_noted)) same (noted (suc j) (omega (arith, less)))

  -- a full group with a page list of this size
  abbrev group-of : ℕ → ℕ → Group
  group-of from size = noted_group book most from (record { at = record { length = 0; size = size; place = 0 }; len = 0 })

  -- a full group as it is noted
  group-noted : (i k : ℕ) (s : ClusterSpan) (l : NotedList) → k ≡ i * most → s ≡ full_span most i
      → IsNotedOf sum book (full_span most i) l → noted_group book most k l ≡ list_group sum book (place_beside book s)
  group-noted i k s l from is noted =
      ap (λ (f : ℕ). noted_group book most f l) from
      ∙ (ap (λ (size : ℕ). group-of (i * most) size) noted.size
      ∙ ap (λ (r : ClusterSpan). list_group sum book (place_beside book r)) (sym is))

  -- the groups that are noted, and the bytes of their lists
  pub groups-noted : (ss : List ClusterSpan) (i k : ℕ) (ls : List NotedList) → AreInOrder k n ss → AreLarge most n ss → k ≡ i * most
      → k + clusters_listed most ls ≤ n → AreNotes i ls
      → (noted_groups book most k ls ≡ list_groups sum book (take (length ls) (places_beside book ss)))
      × (lists_bytes ls ≡ sum_by (λ (l : PlacedList). list_len sum book l.span) (take (length ls) (places_beside book ss)))
  groups-noted ss i k [] order large from fit noted = (refl, refl)
  groups-noted [] i k (l ∷ ls) order large from fit noted = absurd (omega (arith, order, fit, some))
  groups-noted (s ∷ ss) i k (l ∷ ls) order large from fit noted =
      let count : s.count ≡ most = omega (arith, large.0, order.0, fit) in
      let is : s ≡ full_span most i = span-is s (i * most) most (omega (arith, order.0, from)) count in
      let next : (i + 1) * most ≡ i * most + most = rw (add-one i, suc-mul i most) refl in
      let here = first-note i l ls noted in
      let rest = groups-noted ss (i + 1) (k + s.count) ls order.2 large.1 (omega (arith, next, from, count)) (omega (arith, count, fit))
      (other-notes i l ls noted) in (
        ap (λ (g : Group). g ∷ noted_groups book most (k + most) ls) (group-noted i k s l from is here)
            ∙ ap (λ (gs : List Group). list_group sum book (place_beside book s) ∷ gs)
            (ap (λ (f : ℕ). noted_groups book most f ls) (omega (arith, count)) ∙ rest.0),
        omega (
          arith,
          sum_by-cons (λ (d : NotedList). d.len) l ls,
          sum_by-cons (λ (d : PlacedList). list_len sum book d.span) (place_beside book s) (take (length ls) (places_beside book ss)),
          here.len,
          ap (λ (r : ClusterSpan). list_len sum book r) is,
          rest.1,
        ),
      )

-- ---- of a book

module _ (t : Table) (most : ℕ) (book : BookData) (kept : IsBookKept book) (can : CanBeListed book most (header_sum t))
    (noted : AreNotes (header_sum t) book most (all (header_sum t) most book kept can) can.some 0 book.lists) where
  -- the bytes of page lists
  abbrev lens : List PlacedList → ℕ
  lens ls = sum_by (λ (l : PlacedList). list_len (header_sum t) book l.span) ls

  -- the groups of all page lists are those that are noted and those that are left, and so are their bytes
  abbrev pub AreAll : Bool → Type 0
  AreAll staged =
      (noted_groups book most 0 book.lists ++ list_groups (header_sum t) book (left_lists staged (header_sum t) book most)
      ≡ groups t book (list_places staged t book most))
      × (lists_bytes book.lists + lens (left_lists staged (header_sum t) book most) ≡ lens (list_places staged t book most))

  all-beside : AreAll false
  all-beside =
      let sum = header_sum t in
      let ls = places_beside book (spans book most) in
      let n = length book.lists in
      let none : 0 ≡ 0 * most = omega arith in
      let both = groups-noted sum book most (all sum most book kept can) can.some (spans book most) 0 0 book.lists
      (in-order sum most book kept can) (large sum most book kept can) none
      (omega (arith, listed-times most book.lists, listed-fit sum most book kept can)) noted in (
        ap (λ (gs : List Group). gs ++ list_groups sum book (drop n ls)) both.0
            ∙ (sym (map-append (list_group sum book) (take n ls) (drop n ls))
            ∙ ap (list_groups sum book) (take-append-drop n ls)),
        omega (
          arith,
          both.1,
          sum_by-append (λ (l : PlacedList). list_len sum book l.span) (take n ls) (drop n ls),
          ap lens (take-append-drop n ls),
        ),
      )

  pub all-lists : AreAll book.staged
  all-lists = at book.staged refl
    where
      at : (b : Bool) → book.staged ≡ b → AreAll b
      at true is =
          let none = (none-noted (header_sum t) most book kept can is).none_noted in (
            ap (λ (ls : List NotedList). noted_groups book most 0 ls ++ groups t book (list_places true t book most)) none,
            omega (arith, ap lists_bytes none),
          )
      at false is = all-beside
