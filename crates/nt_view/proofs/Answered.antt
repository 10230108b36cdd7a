-- What is held of a column is what its pages give.
use Rattle.std.proofs.Common.{◌≡◌, ◌⊎◌, inl, inr, ℕ, ◌+◌, ◌^◌, ◌<◌, List, [], ◌∷◌, ◌++◌, length, map, take, drop, get_or, replicate}
use Rattle.std.proofs.Common.{Option, None, Some, refl, sym, ap, subst, ◌∙◌, arith, ⊎_elim}
use Rattle.std.proofs.lemmas.Bool.{cases_lt}
use Rattle.std.specs.List.{slice_range, sum}
use Rattle.std.proofs.lemmas.List.{append-nil, length-map, get_or_default, take-map, get_or-take, get_or-drop, get_or_past, length-take}
use Rattle.std.proofs.lemmas.List.Sums.{sum-map}
use Rattle.nt_types.specs.declared.column_type.ColumnType.{ColumnType}
use Rattle.nt_types.specs.declared.column_type.ColumnType.TheVariants.{Bit}
use Rattle.nt_types.specs.ColumnTable.{bits_of}
use Rattle.nt_encode.specs.Pages.{page_size}
use Rattle.nt_encode.specs.Elements.{plain, AreElementsOf}
use Rattle.nt_encode.proofs.Elements.{zeros-are_elements, both-are_elements, page_elements-are}
use Rattle.nt_column.specs.Column.{Column, Buffer, empty, columns_of, elements_at, IsInRange}
use Rattle.nt_view.specs.declared.page_place.PagePlace.{PagePlace}
use Rattle.nt_view.specs.declared.page_place.ZeroColumn.{ZeroColumn}
use Rattle.nt_view.specs.declared.place.PageAt.{PageAt}
use Rattle.nt_view.specs.declared.table.Table.{Table}
use Rattle.nt_view.specs.declared.table.Held.{Held}
use Rattle.nt_view.specs.declared.table.Held.TheVariants.{Zeros, Pages, Sums}
use Rattle.nt_view.specs.Pages.{bytes_of_page, elements_of_page, elements_of_pages, count_of, Follow, LieInOne, IsSplitIndex}
use Rattle.nt_view.specs.Loaded.{Loaded, loaded_elements, loaded_kind, loaded_with, elements_with, counts_with, kind_with, pages_with}
use Rattle.nt_view.specs.Loaded.{LieInOnePage, AreLent}
use Rattle.nt_view.specs.Stores.{cut_up}
use Rattle.nt_view.specs.Table.{held_at, zeros_held, elements_held, elements_in_table, IsColumnOf, IsHeldThere, IsHeld, IsLent}
use Rattle.nt_view.specs.Table.{IsClusterLaid}
use Rattle.nt_view.proofs.InTable.{sums-at}
use Rattle.nt_view.proofs.Places.{count-more}
use Rattle.nt_view.proofs.Laid.{no_place}

abbrev no_buffer : Buffer
no_buffer = record { column = empty Bit; spare = 0 }

-- the elements of a column are those of its pages, or zeros
elements-of : (store : List ℕ) (places : List PageAt) (sums : List Buffer) (h : Held) (ms : List (PagePlace × List ℕ)) (n : ℕ)
    → IsHeld store places sums h ms → n ≡ zeros_held h → elements_held store places sums h ≡ elements_with ms ++ replicate n (plain 0)
elements-of store places sums (Zeros m) ms n is zeros = rw (is, zeros) refl
elements-of store places sums (Pages kind begin end count) ms n is zeros =
    sym is.gives ∙ sym (append-nil (elements_with ms)) ∙ ap (λ (m : ℕ). elements_with ms ++ replicate m (plain 0)) (sym zeros)
elements-of store places sums (Sums s) ms n is zeros =
    let b = get_or sums s no_buffer in
    sums-at sums s b (get_or_default sums s no_buffer b is.there) is.there
    ∙ ap (λ (c : Column). c.elements) (is.gives no_buffer)
    ∙ sym (append-nil (elements_with ms)) ∙ ap (λ (m : ℕ). elements_with ms ++ replicate m (plain 0)) (sym zeros)

there-of : (store : List ℕ) (places : List PageAt) (sums : List Buffer) (h : Held) (ms : List (PagePlace × List ℕ))
    → IsHeld store places sums h ms → IsHeldThere store places sums h
there-of store places sums (Zeros n) ms is = tt
there-of store places sums (Pages kind begin end count) ms is = record {
  order = is.order;
  within = is.within;
  own = record { pages = is.are; single = is.single };
  all = is.all;
}
there-of store places sums (Sums s) ms is = is.there

pub elements-are : (l : Loaded) (seen store : List ℕ) (pages : List PagePlace) (zeros : List ZeroColumn) (t : Table) (k : ℕ)
    → seen ≡ store → IsClusterLaid store pages zeros t.places.items t.columns.items t.sums.items
    → loaded_with pages (cut_up pages store) zeros ≡ l → elements_in_table seen t k ≡ loaded_elements l k
elements-are l seen store pages zeros t k same laid is =
    ap (λ (s : List ℕ). elements_in_table s t k) same
    ∙ elements-of store t.places.items t.sums.items (held_at t.columns.items k) (pages_with k pages (cut_up pages store)) _
    (laid.held k) (laid.zero k)
    ∙ ap (λ (x : Loaded). loaded_elements x k) is

pub column-is : (seen store : List ℕ) (pages : List PagePlace) (zeros : List ZeroColumn) (t : Table) (k : ℕ)
    → seen ≡ store → IsClusterLaid store pages zeros t.places.items t.columns.items t.sums.items → IsColumnOf seen t k
column-is seen store pages zeros t k same laid =
    rw same (there-of store t.places.items t.sums.items (held_at t.columns.items k) (pages_with k pages (cut_up pages store)) (laid.held k))

-- the elements of the first pages are as many as these say
counted-to : (ps : List PageAt) (j : ℕ) → sum (take j (map (λ (p : PageAt). p.count) ps)) ≡ count_of (take j ps)
counted-to ps j = ap sum (take-map (λ (p : PageAt). p.count) j ps) ∙ sum-map (λ (p : PageAt). p.count) (take j ps)

lie-counts : (ps : List PageAt) (from to : ℕ) → Follow ps → LieInOne ps from to → LieInOnePage (map (λ (p : PageAt). p.count) ps) from to
lie-counts ps from to follow (inl same) = inl same
lie-counts ps from to follow (inr (p, (j, there, is), low, high)) =
    let first : p.first ≡ count_of (take j ps) = sym (ap (λ (q : PageAt). q.first) is) ∙ follow j p there in
    let more : (get_or ps j p).count ≡ p.count = ap (λ (q : PageAt). q.count) is in
    inr (
      j,
      omega (arith, there, length-map ps (λ (p : PageAt). p.count)),
      omega (arith, counted-to ps j, first, low),
      omega (arith, counted-to ps (j + 1), count-more ps j p there, first, more, high),
    )

counts-lie : (ps : List PageAt) (from to : ℕ) → Follow ps → LieInOnePage (map (λ (p : PageAt). p.count) ps) from to → LieInOne ps from to
counts-lie ps from to follow (inl same) = inl same
counts-lie ps from to follow (inr (j, within, low, high)) =
    let p = get_or ps j no_place in
    let there : j < length ps = omega (arith, within, length-map ps (λ (p : PageAt). p.count)) in
    inr (
      p,
      (j, there, get_or_default ps j p no_place there),
      omega (arith, counted-to ps j, follow j no_place there, low),
      omega (arith, counted-to ps (j + 1), count-more ps j no_place there, follow j no_place there, high),
    )

-- what is lent of what is held
abbrev AreHeldLent : List (PagePlace × List ℕ) → ℕ → ℕ → Type 0
AreHeldLent ms from to = (from ≡ to) ⊎ ((kind : ColumnType) × (kind_with ms ≡ Some kind) × (bits_of kind ≡ 8)
    × LieInOnePage (counts_with ms) from to)

lent-up : (store : List ℕ) (places : List PageAt) (sums : List Buffer) (h : Held) (ms : List (PagePlace × List ℕ)) (from to : ℕ)
    → IsHeld store places sums h ms → (from ≡ to) ⊎ IsLent places h from to → AreHeldLent ms from to
lent-up store places sums h ms from to is (inl same) = inl same
lent-up store places sums (Zeros n) ms from to is (inr lies) = absurd lies
lent-up store places sums (Pages kind begin end count) ms from to is (inr (width, lies)) =
    inr (kind, is.of_kind, width, rw is.counts (lie-counts (slice_range places begin end) from to is.are.follow lies))
lent-up store places sums (Sums s) ms from to is (inr lies) = absurd lies

some-same : (a b : ColumnType) (o : Option ColumnType) → o ≡ Some a → o ≡ Some b → a ≡ b
some-same a b o is same = cc

not-none : (b : ColumnType) → None ≡ Some b → ⊥
not-none b e = cc

not-bytes : (kind : ColumnType) → IsSplitIndex kind → bits_of kind ≡ 8 → ⊥
not-bytes kind (inl is) width = absurd (omega (arith, ap bits_of is, width))
not-bytes kind (inr is) width = absurd (omega (arith, ap bits_of is, width))

lent-down : (store : List ℕ) (places : List PageAt) (sums : List Buffer) (h : Held) (ms : List (PagePlace × List ℕ)) (from to : ℕ)
    → IsHeld store places sums h ms → AreHeldLent ms from to → (from ≡ to) ⊎ IsLent places h from to
lent-down store places sums h ms from to is (inl same) = inl same
lent-down store places sums (Zeros n) ms from to is (inr (kind, of, width, lies)) = absurd (not-none kind (rw is at of))
lent-down store places sums (Pages own begin end count) ms from to is (inr (kind, of, width, lies)) =
    inr (
      ap bits_of (some-same own kind (kind_with ms) is.of_kind of) ∙ width,
      counts-lie (slice_range places begin end) from to is.are.follow (rw is.counts at lies),
    )
lent-down store places sums (Sums s) ms from to is (inr (kind, of, width, lies)) =
    absurd (not-bytes is.kind is.split (ap bits_of (some-same is.kind kind (kind_with ms) is.of_kind of) ∙ width))

pub lent-loaded : (l : Loaded) (store : List ℕ) (pages : List PagePlace) (zeros : List ZeroColumn) (t : Table) (k from to : ℕ)
    → IsClusterLaid store pages zeros t.places.items t.columns.items t.sums.items → loaded_with pages (cut_up pages store) zeros ≡ l
    → (from ≡ to) ⊎ IsLent t.places.items (held_at t.columns.items k) from to → AreLent l k from to
lent-loaded l store pages zeros t k from to laid is lent =
    rw (sym is) (lent-up store t.places.items t.sums.items (held_at t.columns.items k) (pages_with k pages (cut_up pages store)) from to
    (laid.held k) lent)

pub loaded-lent : (l : Loaded) (store : List ℕ) (pages : List PagePlace) (zeros : List ZeroColumn) (t : Table) (k from to : ℕ)
    → IsClusterLaid store pages zeros t.places.items t.columns.items t.sums.items → loaded_with pages (cut_up pages store) zeros ≡ l
    → AreLent l k from to → (from ≡ to) ⊎ IsLent t.places.items (held_at t.columns.items k) from to
loaded-lent l store pages zeros t k from to laid is lent =
    lent-down store t.places.items t.sums.items (held_at t.columns.items k) (pages_with k pages (cut_up pages store)) from to
    (laid.held k) (rw (sym is) at lent)

-- bytes of a part of a store
abbrev pub AreBytesOf : List ℕ → Type 0
AreBytesOf store = (i : ℕ) → get_or store i 0 < 2 ^ 8

part-bytes : (store : List ℕ) (a n : ℕ) → AreBytesOf store → AreBytesOf (take n (drop a store))
part-bytes store a n fits i = ⊎_elim
    (λ lt. rw (get_or-take n (drop a store) i 0 lt, get_or-drop a store i 0) (fits (a + i)))
    (λ ge. rw (get_or_past (take n (drop a store)) i 0 (omega (arith, length-take n (drop a store), ge))) (omega arith))
    (cases_lt i n)

-- the elements of pages are of their type
pages-in_range : (kind : ColumnType) (store : List ℕ) (ps : List PageAt) → AreBytesOf store
    → AreElementsOf kind (elements_of_pages kind store ps)
pages-in_range kind store [] fits = λ k d h. absurd (omega (arith, h))
pages-in_range kind store (p ∷ ps) fits =
    both-are_elements kind (elements_of_page kind store p) (elements_of_pages kind store ps)
    (page_elements-are kind p.count (bytes_of_page kind store p) (part-bytes store p.at (page_size kind p.count) fits))
    (pages-in_range kind store ps fits)

held-in_range : (store : List ℕ) (places : List PageAt) (sums : List Buffer) (h : Held) (ms : List (PagePlace × List ℕ)) (t : ColumnType)
    → IsHeld store places sums h ms → AreBytesOf store → ((k : ℕ) (d : Buffer) → k < length sums → IsInRange (get_or sums k d).column)
    → kind_with ms ≡ Some t → AreElementsOf t (elements_held store places sums h)
held-in_range store places sums (Zeros n) ms t is fits all of = zeros-are_elements t n
held-in_range store places sums (Pages kind begin end count) ms t is fits all of =
    subst (λ (x : ColumnType). AreElementsOf x (elements_of_pages kind store (slice_range places begin end)))
    (some-same kind t (kind_with ms) is.of_kind of) (pages-in_range kind store (slice_range places begin end) fits)
held-in_range store places sums (Sums s) ms t is fits all of =
    let b = get_or sums s no_buffer in
    let kind : b.column.kind ≡ t = ap (λ (c : Column). c.kind) (is.gives no_buffer) ∙ some-same is.kind t (kind_with ms) is.of_kind of in
    let same : elements_at (columns_of sums) s ≡ b.column.elements =
    sums-at sums s b (get_or_default sums s no_buffer b is.there) is.there in
    rw same (subst (λ (x : ColumnType). AreElementsOf x b.column.elements) kind (all s no_buffer is.there))

pub loaded-in_range : (l : Loaded) (seen store : List ℕ) (pages : List PagePlace) (zeros : List ZeroColumn) (t : Table)
    → seen ≡ store → IsClusterLaid store pages zeros t.places.items t.columns.items t.sums.items
    → loaded_with pages (cut_up pages store) zeros ≡ l → AreBytesOf seen
    → ((k : ℕ) (d : Buffer) → k < length t.sums.items → IsInRange (get_or t.sums.items k d).column)
    → (k : ℕ) (kind : ColumnType) → loaded_kind l k ≡ Some kind → AreElementsOf kind (loaded_elements l k)
loaded-in_range l seen store pages zeros t same laid is fits all k kind of =
    let elements : elements_in_table store t k ≡ loaded_elements l k = elements-are l store store pages zeros t k refl laid is in
    let there : kind_with (pages_with k pages (cut_up pages store)) ≡ Some kind =
    ap (λ (x : Loaded). loaded_kind x k) is ∙ of in
    rw (sym elements) (held-in_range store t.places.items t.sums.items (held_at t.columns.items k)
    (pages_with k pages (cut_up pages store)) kind
    (laid.held k) (rw same at fits) all there)
