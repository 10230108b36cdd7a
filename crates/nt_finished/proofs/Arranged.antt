-- What stands between header and footer: the ranges of the clusters and the page lists, beside them or behind them.
use Rattle.std.proofs.Common.{◌≡◌, ℕ, zero, suc, ◌+◌, Bool, true, false, List, [], ◌∷◌, ◌++◌, map, length, take, drop, sum}
use Rattle.std.proofs.Common.{Some, refl, sym}
use Rattle.std.proofs.Common.{ap, subst, ◌∙◌, ◌⊎◌, inl, inr, arith}
use Rattle.std.specs.Prelude.{Contains, slice_get, slice_index_or}
use Rattle.std.specs.List.{AllByRecursion, concat, sum_by}
use Rattle.std.proofs.lemmas.List.{map-append, length-append, length-map, take-append-drop}
use Rattle.std.proofs.lemmas.List.Elements.{Contains-append_left, Contains-append_right, Contains-append_cases}
use Rattle.std.proofs.lemmas.List.Sums.{sum_by-cons, sum-map}
use Rattle.nt_format.proofs.Pieces.{length-concat, concat-append}
use Rattle.nt_grammar.specs.Table.{Table}
use Rattle.nt_machine.specs.History.{Cluster, ranges_of}
use Rattle.nt_machine.specs.Legal.{end_after}
use Rattle.nt_book.specs.declared.meta.ClusterMeta.{ClusterMeta}
use Rattle.nt_book.specs.Books.{BookData}
use Rattle.nt_lists.specs.Parts.{Part, part_bytes}
use Rattle.nt_layout.specs.Headers.{header_sum, clusters_place}
use Rattle.nt_pagelists.specs.Objects.{ClusterSpan, list_object, list_len}
use Rattle.nt_layout.specs.Groups.{PlacedList, places_beside, places_behind, list_part}
use Rattle.nt_layout.specs.Groups.{list_parts}
use Rattle.nt_layout.specs.Finished.{spans, list_places, range_parts, parts_beside, middle, footer_place}
use Rattle.nt_book.specs.Kept.{AreNamed}
use Rattle.nt_layout.specs.Laid.{range_of}
use Rattle.nt_layout.proofs.Middles.{concat-range_parts, length-list_parts}
use Rattle.nt_finished.proofs.Standing.{length-blob}

-- ---- what is among parts

pub contains-cons : {A : Type 0} (xs : List A) (y x : A) → Contains xs x → Contains (y ∷ xs) x
contains-cons xs y x (k, less, at) = (suc k, omega (arith, less), at)

pub all_among : {A : Type 0} (P : A → Type 0) (xs : List A) (x : A) → AllByRecursion P xs → Contains xs x → P x
all_among P [] x all (k, less, at) = absurd (omega (arith, less))
all_among P (y ∷ ys) x all (zero, less, at) = subst P at all.0
all_among P (y ∷ ys) x all (suc k, less, at) = all_among P ys x all.1 (k, omega (arith, less), at)

pub all_from : {A : Type 0} (P : A → Type 0) (xs : List A) → ((x : A) → Contains xs x → P x) → AllByRecursion P xs
all_from P [] h = tt
all_from P (x ∷ xs) h = (h x (0, omega arith, refl), all_from P xs (λ y in_xs. h y (contains-cons xs x y in_xs)))

module _ (sum : ℕ) (book : BookData) where
  pub ranges_beside : (ls : List PlacedList) (ranges : List Part) (p : Part) → Contains ranges p
      → Contains (parts_beside sum book ls ranges) p
  ranges_beside [] ranges p is = is
  ranges_beside (l ∷ ls) ranges p is =
      which (Contains-append_cases front back p
      (subst (λ (ps : List Part). Contains ps p) (sym (take-append-drop l.span.count ranges)) is))
      (λ b. ranges_beside ls (drop l.span.count ranges) p b)
    where
      front : List Part
      front = take l.span.count ranges

      back : List Part
      back = drop l.span.count ranges

      which : Contains front p ⊎ Contains back p → (Contains back p → Contains (parts_beside sum book ls back) p)
          → Contains (front ++ (list_part sum book l ∷ parts_beside sum book ls back)) p
      which (inl a) later = Contains-append_left front (list_part sum book l ∷ parts_beside sum book ls back) p a
      which (inr b) later = Contains-append_right front (list_part sum book l ∷ parts_beside sum book ls back) p
          (contains-cons (parts_beside sum book ls back) (list_part sum book l) p (later b))

  pub lists_beside : (ls : List PlacedList) (ranges : List Part) (p : Part) → Contains (list_parts sum book ls) p
      → Contains (parts_beside sum book ls ranges) p
  lists_beside [] ranges p (k, less, at) = absurd (omega (arith, less))
  lists_beside (l ∷ ls) ranges p (zero, less, at) =
      Contains-append_right (take l.span.count ranges) (list_part sum book l ∷ parts_beside sum book ls (drop l.span.count ranges)) p
      (0, omega arith, at)
  lists_beside (l ∷ ls) ranges p (suc k, less, at) =
      Contains-append_right (take l.span.count ranges) (list_part sum book l ∷ parts_beside sum book ls (drop l.span.count ranges)) p
      (contains-cons (parts_beside sum book ls (drop l.span.count ranges)) (list_part sum book l) p
      (lists_beside ls (drop l.span.count ranges) p (k, omega (arith, less), at)))

-- ---- how long they are

abbrev pub parts_len : List Part → ℕ
parts_len parts = length (concat (part_bytes parts))

pub parts_len-append : (xs ys : List Part) → parts_len (xs ++ ys) ≡ parts_len xs + parts_len ys
parts_len-append xs ys =
    ap (λ (l : List (List ℕ)). length (concat l)) (map-append (λ (p : Part). p.bytes) xs ys)
    ∙ (ap (λ (l : List ℕ). length l) (concat-append (part_bytes xs) (part_bytes ys))
    ∙ length-append (concat (part_bytes xs)) (concat (part_bytes ys)))

module _ (sum : ℕ) (book : BookData) where
  abbrev pub lists_len : List PlacedList → ℕ
  lists_len ls = sum_by (λ (l : PlacedList). list_len sum book l.span) ls

  pub len-beside : (ls : List PlacedList) (ranges : List Part)
      → parts_len (parts_beside sum book ls ranges) ≡ parts_len ranges + lists_len ls
  len-beside [] ranges = omega arith
  len-beside (l ∷ ls) ranges =
      let front = take l.span.count ranges in
      let back = drop l.span.count ranges in
      let rest = parts_beside sum book ls back in
      omega (
        arith,
        parts_len-append front (list_part sum book l ∷ rest),
        length-append (list_part sum book l).bytes (concat (part_bytes rest)),
        length-blob l.place (list_object sum book l.span),
        len-beside ls back,
        sum_by-cons (λ (l : PlacedList). list_len sum book l.span) l ls,
        parts_len-append front back,
        ap (λ (ps : List Part). parts_len ps) (take-append-drop l.span.count ranges),
      )

-- ---- the ranges by their numbers

range-at : (rs : List (Cluster ClusterMeta)) (ranges : List (List ℕ)) (n : ℕ) (c : Cluster ClusterMeta) → length ranges ≡ length rs
    → slice_get rs n ≡ Some c
    → Contains (range_parts rs ranges) (record { place = c.start; bytes = slice_index_or ranges n [] })
range-at [] ranges n c same at = cc
range-at (r ∷ rs) [] n c same at = absurd (omega (arith, same))
range-at (r ∷ rs) (x ∷ ranges) zero c same at =
    let is : r ≡ c = cc in
    (0, omega arith, ap (λ (d : Cluster ClusterMeta). record { place = d.start; bytes = x }) is)
range-at (r ∷ rs) (x ∷ ranges) (suc n) c same at =
    contains-cons (range_parts rs ranges) (record { place = r.start; bytes = x })
    (record { place = c.start; bytes = slice_index_or ranges n [] }) (range-at rs ranges n c (omega (arith, same)) at)

pub ranges-named : (rs : List (Cluster ClusterMeta)) (ranges : List (List ℕ)) (cs : List (Cluster ClusterMeta)) (p : Part)
    → length ranges ≡ length rs → AreNamed rs cs → Contains (range_parts cs (map (range_of ranges) cs)) p
    → Contains (range_parts rs ranges) p
ranges-named rs ranges [] p same named (k, less, at) = absurd (omega (arith, less))
ranges-named rs ranges (c ∷ cs) p same named (zero, less, at) =
    subst (λ (q : Part). Contains (range_parts rs ranges) q) at (range-at rs ranges c.number c same named.0)
ranges-named rs ranges (c ∷ cs) p same named (suc k, less, at) =
    ranges-named rs ranges cs p same named.1 (k, omega (arith, less), at)

-- ---- the spans of the page lists

abbrev pub list_spans : List PlacedList → List ClusterSpan
list_spans ls = map (λ (l : PlacedList). l.span) ls

spans-beside : (book : BookData) (ss : List ClusterSpan) → list_spans (places_beside book ss) ≡ ss
spans-beside book [] = refl
spans-beside book (s ∷ ss) = ap (λ (l : List ClusterSpan). s ∷ l) (spans-beside book ss)

spans-behind : (sum : ℕ) (book : BookData) (place : ℕ) (ss : List ClusterSpan) → list_spans (places_behind sum book place ss) ≡ ss
spans-behind sum book place [] = refl
spans-behind sum book place (s ∷ ss) = ap (λ (l : List ClusterSpan). s ∷ l) (spans-behind sum book (place + list_len sum book s) ss)

pub spans-are : (staged : Bool) (t : Table) (book : BookData) (most : ℕ) → list_spans (list_places staged t book most) ≡ spans book most
spans-are true t book most = spans-behind (header_sum t) book (end_after book.begin (ranges_of book.history)) (spans book most)
spans-are false t book most = spans-beside book (spans book most)

pub all_spans : (P : ClusterSpan → Type 0) (ls : List PlacedList) → AllByRecursion P (list_spans ls)
    → AllByRecursion (λ (l : PlacedList). P l.span) ls
all_spans P [] h = tt
all_spans P (l ∷ ls) h = (h.0, all_spans P ls h.1)

-- ---- the middle of a file

pub footer_place-is : (t : Table) (book : BookData) (ls : List PlacedList)
    → footer_place t book ls ≡ end_after book.begin (ranges_of book.history) + lists_len (header_sum t) book ls
unfolding footer_place
footer_place-is t book ls = refl

module _ (t : Table) (book : BookData) (most : ℕ) (ranges : List (List ℕ)) where
  pub lists_in : (staged : Bool) (p : Part) → Contains (list_parts (header_sum t) book (list_places staged t book most)) p
      → Contains (middle staged t book most ranges) p
  lists_in true p is =
      Contains-append_right (range_parts (ranges_of book.history) ranges)
      (list_parts (header_sum t) book (list_places true t book most)) p is
  lists_in false p is =
      lists_beside (header_sum t) book (list_places false t book most) (range_parts (ranges_of book.history) ranges) p is

  pub ranges_in : (staged : Bool) (p : Part) → Contains (range_parts (ranges_of book.history) ranges) p
      → Contains (middle staged t book most ranges) p
  ranges_in true p is =
      Contains-append_left (range_parts (ranges_of book.history) ranges)
      (list_parts (header_sum t) book (list_places true t book most)) p is
  ranges_in false p is =
      ranges_beside (header_sum t) book (list_places false t book most) (range_parts (ranges_of book.history) ranges) p is

  len-middle : (staged : Bool) → parts_len (middle staged t book most ranges)
      ≡ parts_len (range_parts (ranges_of book.history) ranges) + lists_len (header_sum t) book (list_places staged t book most)
  len-middle true =
      omega (
        arith,
        parts_len-append (range_parts (ranges_of book.history) ranges) (list_parts (header_sum t) book (list_places true t book most)),
        length-list_parts (header_sum t) book (list_places true t book most),
      )
  len-middle false = len-beside (header_sum t) book (list_places false t book most) (range_parts (ranges_of book.history) ranges)

  -- the footer stands behind all of them
  pub middle-end : (staged : Bool) → book.begin ≡ clusters_place t
      → map length ranges ≡ map (λ (c : Cluster ClusterMeta). c.len) (ranges_of book.history)
      → clusters_place t + parts_len (middle staged t book most ranges) ≡ footer_place t book (list_places staged t book most)
  middle-end staged begin lens =
      let cs = ranges_of book.history in
      let same : length ranges ≡ length cs =
      sym (length-map ranges length) ∙ (ap length lens ∙ length-map cs (λ (c : Cluster ClusterMeta). c.len)) in
      omega (
        arith,
        begin,
        len-middle staged,
        ap length (concat-range_parts cs ranges same),
        length-concat ranges,
        ap sum lens,
        sum-map (λ (c : Cluster ClusterMeta). c.len) cs,
        footer_place-is t book (list_places staged t book most),
      )
