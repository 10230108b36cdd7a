-- Elements of pages, one behind the other.
use Rattle.std.proofs.Common.{◌≡◌, ◌≢◌, ℕ, ◌+◌, ◌-◌, ◌<◌, ◌≤◌, List, [], ◌∷◌, ◌++◌, length, take, drop, map, get_or, refl, sym, ap, ◌∙◌}
use Rattle.std.proofs.Common.{arith, ⊎_elim}
use Rattle.std.specs.List.{flat_map, fold, slice_range}
use Rattle.std.proofs.lemmas.List.{length-map, get_or-map, get_or_past, length-take, ext_get_or, length-drop, length-take-le, get_or-take}
use Rattle.std.proofs.lemmas.List.{map-append}
use Rattle.std.proofs.lemmas.List.{get_or-drop}
use Rattle.std.proofs.lemmas.Slice.Zip.{firsts-zip, seconds-zip}
use Rattle.std.proofs.lemmas.Bool.{cases_lt}
use Rattle.std.proofs.lemmas.List.Concat.{get_or-flat_map, length-flat_map}
use Rattle.nt_types.specs.declared.column_type.ColumnType.{ColumnType}
use Rattle.nt_types.specs.declared.column_type.ColumnType.TheVariants.{Switch}
use Rattle.std.proofs.Common.{Fits, w8}
use Rattle.nt_types.specs.ColumnTable.{bits_of}
use Rattle.nt_column.specs.Elements.{tags}
use Rattle.nt_column.proofs.Numbers.{numbers-range, numbers-plain_list, tag-plain, elements-range}
use Rattle.nt_column.proofs.Zips.{length-pairs}
use Rattle.nt_column.proofs.Growing.{values-bytes}
use Rattle.nt_column.proofs.Pages.{not_switch}
use Rattle.nt_encode.specs.Pages.{page_size, page_values}
use Rattle.nt_encode.specs.Elements.{Element, plain, numbers, page_elements}
use Rattle.nt_encode.specs.Switch.{switch_index, switch_indices, switch_tag, switch_tags}
use Rattle.nt_encode.proofs.Lists.{length-list_of}
use Rattle.nt_encode.proofs.Values.{length-page_values}
use Rattle.nt_encode.proofs.Elements.{page_elements-values}
use Rattle.nt_view.specs.declared.place.PageAt.{PageAt}
use Rattle.nt_view.proofs.Places.{count-more, count-le}
use Rattle.nt_view.specs.Pages.{bytes_of_page, elements_of_page, elements_of_pages, count_of, Follow, IsIn, ArePages}

-- a page has as many elements as it says
pub length-page_elements : (kind : ColumnType) (n : ℕ) (bytes : List ℕ) → length (page_elements kind n bytes) ≡ n
length-page_elements Switch n bytes =
    length-pairs (switch_indices n bytes) (switch_tags n bytes)
    (length-list_of n (switch_tag bytes) ∙ sym (length-list_of n (switch_index bytes)))
    ∙ length-list_of n (switch_index bytes)
length-page_elements kind n bytes =
    ap length (page_elements-values kind n bytes (λ same. cc same))
    ∙ length-map (page_values kind n bytes) plain ∙ length-page_values kind n bytes

-- its numbers are its values
pub numbers-of_page : (kind : ColumnType) (n : ℕ) (bytes : List ℕ) → numbers (page_elements kind n bytes) ≡ page_values kind n bytes
numbers-of_page Switch n bytes =
    firsts-zip (switch_indices n bytes) (switch_tags n bytes)
    (length-list_of n (switch_tag bytes) ∙ sym (length-list_of n (switch_index bytes)))
numbers-of_page kind n bytes =
    ap numbers (page_elements-values kind n bytes (λ same. cc same)) ∙ numbers-plain_list (page_values kind n bytes)

pub length-elements : (kind : ColumnType) (store : List ℕ) (p : PageAt) → length (elements_of_page kind store p) ≡ p.count
length-elements kind store p = length-page_elements kind p.count (bytes_of_page kind store p)

-- pages have as many elements as they say
pub length-elements_of_pages : (kind : ColumnType) (store : List ℕ) (ps : List PageAt) → length (elements_of_pages kind store ps)
    ≡ count_of ps
length-elements_of_pages kind store ps =
    length-flat_map (elements_of_page kind store) ps ∙ same ps 0
  where
    same : (qs : List PageAt) (a : ℕ)
        → fold (λ n p. n + length (elements_of_page kind store p)) a qs ≡ fold (λ n (p : PageAt). n + p.count) a qs
    same [] a = refl
    same (q ∷ qs) a =
        ap (λ m. fold (λ n p. n + length (elements_of_page kind store p)) (a + m) qs) (length-elements kind store q)
        ∙ same qs (a + q.count)

-- an element of a column is one of its page
pub element-in : (kind : ColumnType) (store : List ℕ) (ps : List PageAt) (j i : ℕ) (e : PageAt) (d : Element) → Follow ps
    → IsIn ps j i
    → get_or (elements_of_pages kind store ps) i d ≡ get_or (elements_of_page kind store (get_or ps j e)) (i - (get_or ps j e).first) d
element-in kind store ps j i e d follow h =
    let f = elements_of_page kind store in
    let p = get_or ps j e in
    let count : length (f p) ≡ p.count = length-elements kind store p in
    let before : length (flat_map f (take j ps)) ≡ p.first =
    length-elements_of_pages kind store (take j ps) ∙ sym (follow j e h.there) in
    let place : length (flat_map f (take j ps)) + (i - p.first) ≡ i = omega (arith, before, h.from e) in
    sym (ap (λ n. get_or (flat_map f ps) n d) place)
    ∙ get_or-flat_map f ps j (i - p.first) e d h.there (omega (arith, count, h.from e, h.before e))

-- elements that lie in one page are a part of it
pub part-in : (kind : ColumnType) (store : List ℕ) (ps : List PageAt) (j from to : ℕ) (e : PageAt) → Follow ps
    → IsIn ps j from → from ≤ to → to ≤ (get_or ps j e).first + (get_or ps j e).count
    → slice_range (elements_of_pages kind store ps) from to
    ≡ slice_range (elements_of_page kind store (get_or ps j e)) (from - (get_or ps j e).first) (to - (get_or ps j e).first)
part-in kind store ps j from to e follow h order within =
    let xs = elements_of_pages kind store ps in
    let p = get_or ps j e in
    let ys = elements_of_page kind store p in
    let n = to - from in
    let zero : Element = (0, 0) in
    let low = h.from e in
    let count : length ys ≡ p.count = length-elements kind store p in
    let shorter : to - p.first - (from - p.first) ≡ n = omega (arith, low, order) in
    let behind : count_of (take (j + 1) ps) ≤ count_of ps = count-le ps (j + 1) in
    let end : p.first + p.count ≡ count_of (take (j + 1) ps) = omega (arith, follow j e h.there, count-more ps j e h.there) in
    let all : length xs ≡ count_of ps = length-elements_of_pages kind store ps in
    let room : n ≤ length (drop from xs) = omega (arith, length-drop from xs, all, behind, end, within, order) in
    let space : n ≤ length (drop (from - p.first) ys) = omega (arith, length-drop (from - p.first) ys, count, within, low, order) in
    rw shorter (ext_get_or zero (take n (drop from xs)) (take n (drop (from - p.first) ys))
    (length-take-le n (drop from xs) room ∙ sym (length-take-le n (drop (from - p.first) ys) space))
    (λ i lt.
    let small : i < n = omega (arith, lt, length-take-le n (drop from xs) room) in
    let here : IsIn ps j (from + i) = record {
      there = h.there;
      from = λ d. omega (arith, h.from d);
      before = λ d. omega (
        arith,
        follow j e h.there,
        follow j d h.there,
        count-more ps j e h.there,
        count-more ps j d h.there,
        within,
        small,
        order,
      );
    } in
    let same : from + i - p.first ≡ from - p.first + i = omega (arith, low) in
    get_or-take n (drop from xs) i zero small ∙ get_or-drop from xs i zero ∙ element-in kind store ps j (from + i) e zero follow here
    ∙ ap (λ m. get_or ys m zero) same
    ∙ sym (get_or-take n (drop (from - p.first) ys) i zero small ∙ get_or-drop (from - p.first) ys i zero)))

-- an element that is in its page
there-in : (kind : ColumnType) (store : List ℕ) (ps : List PageAt) (j i : ℕ) (e : PageAt) → Follow ps → IsIn ps j i
    → i < length (elements_of_pages kind store ps)
there-in kind store ps j i e follow h =
    omega (
      arith,
      length-elements_of_pages kind store ps,
      count-le ps (j + 1),
      count-more ps j e h.there,
      follow j e h.there,
      h.before e,
    )

inside-in : (kind : ColumnType) (store : List ℕ) (ps : List PageAt) (j i : ℕ) (e : PageAt) → IsIn ps j i
    → i - (get_or ps j e).first < length (elements_of_page kind store (get_or ps j e))
inside-in kind store ps j i e h = omega (arith, length-elements kind store (get_or ps j e), h.from e, h.before e)

-- the number of an element is the value of its page
pub number-in : (kind : ColumnType) (store : List ℕ) (ps : List PageAt) (j i n : ℕ) (e : PageAt) → Follow ps → IsIn ps j i
    → n ≡ get_or (page_values kind (get_or ps j e).count (bytes_of_page kind store (get_or ps j e))) (i - (get_or ps j e).first) 0
    → n ≡ get_or (numbers (elements_of_pages kind store ps)) i 0
number-in kind store ps j i n e follow h is =
    let p = get_or ps j e in
    let k = i - p.first in
    let first : Element → ℕ = λ x. x.0 in
    let zero : Element = (0, 0) in
    is ∙ sym (get_or-map first (elements_of_pages kind store ps) i zero 0 (there-in kind store ps j i e follow h)
    ∙ ap first (element-in kind store ps j i e zero follow h)
    ∙ sym (get_or-map first (elements_of_page kind store p) k zero 0 (inside-in kind store ps j i e h))
    ∙ ap (λ (l : List ℕ). get_or l k 0) (numbers-of_page kind p.count (bytes_of_page kind store p)))

-- the tag of an element of a Switch is that of its pair
pub tag-in : (store : List ℕ) (ps : List PageAt) (j i n : ℕ) (e : PageAt) → Follow ps → IsIn ps j i
    → n ≡ get_or (switch_tags (get_or ps j e).count (bytes_of_page Switch store (get_or ps j e))) (i - (get_or ps j e).first) 0
    → n ≡ get_or (tags (elements_of_pages Switch store ps)) i 0
tag-in store ps j i n e follow h is =
    let p = get_or ps j e in
    let k = i - p.first in
    let bytes = bytes_of_page Switch store p in
    let second : Element → ℕ = λ x. x.1 in
    let zero : Element = (0, 0) in
    is ∙ sym (get_or-map second (elements_of_pages Switch store ps) i zero 0 (there-in Switch store ps j i e follow h)
    ∙ ap second (element-in Switch store ps j i e zero follow h)
    ∙ sym (get_or-map second (elements_of_page Switch store p) k zero 0 (inside-in Switch store ps j i e h))
    ∙ ap (λ (l : List ℕ). get_or l k 0) (seconds-zip (switch_indices p.count bytes) (switch_tags p.count bytes)
    (length-list_of p.count (switch_tag bytes) ∙ sym (length-list_of p.count (switch_index bytes)))))

-- the values of pages are all that their elements have
pages-plain : (kind : ColumnType) (store : List ℕ) (ps : List PageAt) → kind ≢ Switch
    → elements_of_pages kind store ps ≡ map plain (flat_map (λ (p : PageAt). page_values kind p.count (bytes_of_page kind store p)) ps)
pages-plain kind store [] other = refl
pages-plain kind store (p ∷ ps) other =
    let vs = page_values kind p.count (bytes_of_page kind store p) in
    let rest = flat_map (λ (q : PageAt). page_values kind q.count (bytes_of_page kind store q)) ps in
    ap (λ (l : List Element). l ++ elements_of_pages kind store ps) (page_elements-values kind p.count (bytes_of_page kind store p) other)
    ∙ ap (λ (l : List Element). map plain vs ++ l) (pages-plain kind store ps other) ∙ sym (map-append plain vs rest)

-- so their tags are 0
pub no-tag : (kind : ColumnType) (store : List ℕ) (ps : List PageAt) (i : ℕ) → kind ≢ Switch
    → 0 ≡ get_or (tags (elements_of_pages kind store ps)) i 0
no-tag kind store ps i other =
    let vs = flat_map (λ (p : PageAt). page_values kind p.count (bytes_of_page kind store p)) ps in
    sym (ap (λ (l : List Element). get_or (tags l) i 0) (pages-plain kind store ps other) ∙ tag-plain (λ (n : ℕ). n) vs i)

-- numbers that lie in one page are values of it
pub numbers-in : (kind : ColumnType) (store : List ℕ) (ps : List PageAt) (j from to : ℕ) (e : PageAt) → Follow ps
    → IsIn ps j from → from ≤ to → to ≤ (get_or ps j e).first + (get_or ps j e).count
    → slice_range (page_values kind (get_or ps j e).count (bytes_of_page kind store (get_or ps j e))) (from - (get_or ps j e).first)
    (to - (get_or ps j e).first)
    ≡ slice_range (numbers (elements_of_pages kind store ps)) from to
numbers-in kind store ps j from to e follow h order within =
    let p = get_or ps j e in
    let a = from - p.first in
    let b = to - p.first in
    let es = elements_of_page kind store p in
    sym (sym (numbers-range (elements_of_pages kind store ps) from to)
    ∙ ap numbers (part-in kind store ps j from to e follow h order within)
    ∙ numbers-range es a b
    ∙ ap (λ (ns : List ℕ). slice_range ns a b) (numbers-of_page kind p.count (bytes_of_page kind store p)))

-- bytes that lie in one page are elements of it
pub bytes-in : (kind : ColumnType) (store : List ℕ) (ps : List PageAt) (j from to : ℕ) (e : PageAt) → bits_of kind ≡ 8
    → ArePages kind store ps
    → IsIn ps j from → from ≤ to → to ≤ (get_or ps j e).first + (get_or ps j e).count
    → ((i : ℕ) → Fits w8 (get_or (bytes_of_page kind store (get_or ps j e)) i 0))
    → map plain (slice_range (bytes_of_page kind store (get_or ps j e)) (from - (get_or ps j e).first) (to - (get_or ps j e).first))
    ≡ slice_range (elements_of_pages kind store ps) from to
bytes-in kind store ps j from to e width are h order within fits =
    let p = get_or ps j e in
    let a = from - p.first in
    let b = to - p.first in
    let bytes = bytes_of_page kind store p in
    let other : kind ≢ Switch = not_switch kind 8 (sym width) (omega arith) in
    let lies = are.lie j e h.there in
    let size : page_size kind p.count ≡ p.count = rw width (omega arith) in
    let len : length bytes ≡ p.count =
    length-take-le (page_size kind p.count) (drop p.at store) (omega (arith, length-drop p.at store, lies)) ∙ size in
    let plainly : map plain bytes ≡ elements_of_page kind store p =
    sym (page_elements-values kind p.count bytes other
    ∙ ap (λ (l : List ℕ). map plain l) (values-bytes kind p.count bytes width len fits)) in
    elements-range plain bytes bytes a b refl ∙ ap (λ (l : List Element). slice_range l a b) plainly
    ∙ sym (part-in kind store ps j from to e are.follow h order within)

-- a part of a list of bytes has bytes
pub part-fits : (xs : List ℕ) (a n : ℕ) → ((k : ℕ) → Fits w8 (get_or xs k 0)) → (i : ℕ) → Fits w8 (get_or (take n (drop a xs)) i 0)
part-fits xs a n fits i = ⊎_elim
    (λ lt. rw (get_or-take n (drop a xs) i 0 lt, get_or-drop a xs i 0) (fits (a + i)))
    (λ ge.
    let none : Fits w8 0 = rw (get_or_past xs (length xs) 0 (omega arith)) at (fits (length xs)) in
    rw (get_or_past (take n (drop a xs)) i 0 (omega (arith, length-take n (drop a xs), ge))) none)
    (cases_lt i n)
