-- A page among those of its column.
use Rattle.std.proofs.Common.{◌≡◌, inl, inr, ℕ, zero, suc, ◌+◌, ◌<◌, ◌≤◌, Bool, true, false, eqb, eq-eqb, ne_eqb, List, [], ◌∷◌, ◌++◌}
use Rattle.std.proofs.Common.{None, Some, if◌then◌else◌, length, take, drop, get_or, refl, sym, ap, ◌∙◌, arith, ⊎_elim}
use Rattle.std.proofs.lemmas.List.{drop-drop, length-append, length-take, length-drop, length-take-le, get_or-map, get_or-take, get_or-drop}
use Rattle.nt_lists.proofs.Fronts.{take_front, drop_front}
use Rattle.nt_types.specs.declared.column_type.ColumnType.{ColumnType}
use Rattle.nt_encode.specs.Pages.{page_size, page_values}
use Rattle.nt_encode.specs.Elements.{Element, numbers, page_elements}
use Rattle.nt_column.specs.Column.{Column, Buffer}
use Rattle.nt_view.specs.declared.page_place.PagePlace.{PagePlace}
use Rattle.nt_view.specs.declared.page_place.ZeroColumn.{ZeroColumn}
use Rattle.nt_view.specs.declared.table.Table.{Table}
use Rattle.nt_view.specs.declared.place.PageAt.{PageAt}
use Rattle.nt_view.specs.declared.table.Held.{Held}
use Rattle.nt_view.specs.declared.table.Held.TheVariants.{Zeros, Pages, Sums}
use Rattle.nt_view.specs.Pages.{IsSplitIndex}
use Rattle.nt_view.specs.Loaded.{Loaded, MayStandBehind, StandInOrder, loaded_with, pages_with, elements_with, kind_with, stored_elements}
use Rattle.nt_view.specs.Stores.{cut_up}
use Rattle.nt_view.specs.Table.{held_at, IsHeld, IsClusterLaid, HasSums}
use Rattle.nt_view.specs.Views.{counted_of}
use Rattle.nt_view.proofs.Elements.{length-page_elements, numbers-of_page}
use Rattle.nt_view.proofs.Columns.{length-cut}
use Rattle.nt_view.proofs.Laid.{no_place}
use Rattle.nt_view.proofs.Assembled.{page-lies, page-stored}
use Rattle.nt_view.proofs.Held.{decide}

-- what stands behind a page that stands behind another stands behind that
behind-behind : (p q r : PagePlace) → MayStandBehind p q → MayStandBehind q r → MayStandBehind p r
behind-behind p q r (inl a) (inl b) = inl (omega (arith, a, b))
behind-behind p q r (inl a) (inr (b, kind)) = inl (omega (arith, a, b))
behind-behind p q r (inr (a, kind)) (inl b) = inl (omega (arith, a, b))
behind-behind p q r (inr (a, kind)) (inr (b, same)) = inr (a ∙ b, kind ∙ same)

-- pages behind the first one are in order
order-behind : (p : PagePlace) (ps : List PagePlace) → StandInOrder (p ∷ ps) → StandInOrder ps
order-behind p ps order i d lt =
    let next : suc i + 1 ≡ suc (i + 1) = omega arith in
    rw next at (order (suc i) d (omega (arith, lt)))

-- each later page stands behind the first
behind-first : (p : PagePlace) (ps : List PagePlace) → StandInOrder (p ∷ ps) → (i : ℕ) (d : PagePlace) → i < length ps
    → MayStandBehind p (get_or ps i d)
behind-first p [] order i d lt = absurd (omega (arith, lt))
behind-first p (q ∷ qs) order zero d lt = order 0 d (omega (arith, lt))
behind-first p (q ∷ qs) order (suc i) d lt =
    behind-behind p q (get_or qs i d) (order 0 d (omega (arith, lt)))
    (behind-first q qs (order-behind p (q ∷ qs) order) i d (omega (arith, lt)))

-- a page has the type of its column
pub kind-of_page : (k : ℕ) (ps : List PagePlace) (bs : List (List ℕ)) → length bs ≡ length ps → StandInOrder ps → (j : ℕ) (d : PagePlace)
    → j < length ps → (get_or ps j d).column ≡ k → kind_with (pages_with k ps bs) ≡ Some (get_or ps j d).kind
kind-of_page k [] bs all order j d lt is = absurd (omega (arith, lt))
kind-of_page k (p ∷ ps) [] all order j d lt is = absurd (omega (arith, all))
kind-of_page k (p ∷ ps) (b ∷ bs) all order zero d lt is =
    let here : eqb p.column k ≡ true = eq-eqb p.column k is in
    rw here refl
kind-of_page k (p ∷ ps) (b ∷ bs) all order (suc j) d lt is = ⊎_elim
    (λ (same : p.column ≡ k).
    let here : eqb p.column k ≡ true = eq-eqb p.column k same in
    rw here (ap (λ (t : ColumnType). Some t) (⊎_elim
    (λ less. absurd (omega (arith, less, same, is)))
    (λ equal. equal.1)
    (behind-first p ps order j d (omega (arith, lt))))))
    (λ (other : p.column ≡ k → ⊥).
    let not : eqb p.column k ≡ false = ne_eqb p.column k other in
    rw not (kind-of_page k ps bs (omega (arith, all)) (order-behind p ps order) j d (omega (arith, lt)) is))
    (decide p.column k)

-- so a page of a column whose numbers weren't added up is of no split index
pub kind-single : (store : List ℕ) (places : List PageAt) (sums : List Buffer) (h : Held) (ms : List (PagePlace × List ℕ))
    (kind : ColumnType) → IsHeld store places sums h ms → kind_with ms ≡ Some kind → ((s : ℕ) → h ≡ Sums s → ⊥) → IsSplitIndex kind → ⊥
kind-single store places sums (Zeros n) ms kind is of none = absurd (some (rw is at of))
  where
    some : None ≡ Some kind → ⊥
    some e = cc
kind-single store places sums (Pages own begin end count) ms kind is of none =
    let same : own ≡ kind = cc (is.of_kind, of) in
    rw same at is.single
kind-single store places sums (Sums s) ms kind is of none = absurd (none s refl)

drop-behind : {A : Type 0} (xs ys : List A) (n m : ℕ) → length xs ≡ n → drop (n + m) (xs ++ ys) ≡ drop m ys
drop-behind {A = A} xs ys n m is =
    sym (drop-drop m n (xs ++ ys)) ∙ ap (λ (l : List A). drop m l) (ap (λ k. drop k (xs ++ ys)) (sym is) ∙ drop_front xs ys)

-- a page's elements are a part of its column's
pub page-among : (k : ℕ) (ps : List PagePlace) (bs : List (List ℕ)) → length bs ≡ length ps → (j : ℕ) (d : PagePlace)
    → j < length ps → (get_or ps j d).column ≡ k
    → take (get_or ps j d).count (drop (counted_of k (take j ps)) (elements_with (pages_with k ps bs)))
    ≡ stored_elements (get_or ps j d) (get_or bs j [])
page-among k [] bs all j d lt is = absurd (omega (arith, lt))
page-among k (p ∷ ps) [] all j d lt is = absurd (omega (arith, all))
page-among k (p ∷ ps) (b ∷ bs) all zero d lt is =
    let here : eqb p.column k ≡ true = eq-eqb p.column k is in
    let es = stored_elements p b in
    rw here (ap (λ n. take n (es ++ elements_with (pages_with k ps bs))) (sym (length-page_elements p.kind p.count (take p.size b)))
    ∙ take_front es (elements_with (pages_with k ps bs)))
page-among k (p ∷ ps) (b ∷ bs) all (suc j) d lt is = ⊎_elim
    (λ (same : p.column ≡ k).
    let here : eqb p.column k ≡ true = eq-eqb p.column k same in
    rw here (ap (λ (l : List Element). take (get_or ps j d).count l)
    (drop-behind (stored_elements p b) (elements_with (pages_with k ps bs)) p.count (counted_of k (take j ps))
    (length-page_elements p.kind p.count (take p.size b)))
    ∙ page-among k ps bs (omega (arith, all)) j d (omega (arith, lt)) is))
    (λ (other : p.column ≡ k → ⊥).
    let not : eqb p.column k ≡ false = ne_eqb p.column k other in
    let none : 0 + counted_of k (take j ps) ≡ counted_of k (take j ps) = omega arith in
    rw (not, none) (page-among k ps bs (omega (arith, all)) j d (omega (arith, lt)) is))
    (decide p.column k)

-- a column has as many elements as its pages say
pub counted-all : (k : ℕ) (ps : List PagePlace) (bs : List (List ℕ)) → length bs ≡ length ps
    → counted_of k ps ≡ length (elements_with (pages_with k ps bs))
counted-all k [] bs all = refl
counted-all k (p ∷ ps) [] all = absurd (omega (arith, all))
counted-all k (p ∷ ps) (b ∷ bs) all = step (eqb p.column k) (counted-all k ps bs (omega (arith, all)))
  where
    step : (t : Bool) → counted_of k ps ≡ length (elements_with (pages_with k ps bs)) → (if t then p.count else 0) + counted_of k ps
        ≡ length (elements_with ((if t then (p, b) ∷ [] else []) ++ pages_with k ps bs))
    step true rest =
        omega (
          arith,
          rest,
          length-append (stored_elements p b) (elements_with (pages_with k ps bs)),
          length-page_elements p.kind p.count (take p.size b),
        )
    step false rest = omega (arith, rest)

-- the count grows page by page
counted-more : (k : ℕ) (ps : List PagePlace) (i : ℕ) (d : PagePlace) → i < length ps
    → counted_of k (take (suc i) ps) ≡ counted_of k (take i ps) + (if eqb (get_or ps i d).column k then (get_or ps i d).count else 0)
counted-more k [] i d lt = absurd (omega (arith, lt))
counted-more k (p ∷ ps) zero d lt = omega arith
counted-more k (p ∷ ps) (suc i) d lt = omega (arith, counted-more k ps i d (omega (arith, lt)))

-- by a page of the column
pub counted-same : (k : ℕ) (ps : List PagePlace) (i : ℕ) (d : PagePlace) → i < length ps → (get_or ps i d).column ≡ k
    → counted_of k (take (i + 1) ps) ≡ counted_of k (take i ps) + (get_or ps i d).count
counted-same k ps i d lt is =
    let next : i + 1 ≡ suc i = omega arith in
    ap (λ (n : ℕ). counted_of k (take n ps)) next ∙ rw (eq-eqb (get_or ps i d).column k is) at (counted-more k ps i d lt)

-- and not by another
pub counted-other : (k : ℕ) (ps : List PagePlace) (i : ℕ) (d : PagePlace) → i < length ps → ((get_or ps i d).column ≡ k → ⊥)
    → counted_of k (take (i + 1) ps) ≡ counted_of k (take i ps)
counted-other k ps i d lt other =
    let next : i + 1 ≡ suc i = omega arith in
    let more : counted_of k (take (suc i) ps) ≡ counted_of k (take i ps) + 0 =
    rw (ne_eqb (get_or ps i d).column k other) at (counted-more k ps i d lt) in
    let same : counted_of k (take (suc i) ps) ≡ counted_of k (take i ps) = omega (arith, more) in
    ap (λ (n : ℕ). counted_of k (take n ps)) next ∙ same

pub counted-le : (k : ℕ) (ps : List PagePlace) (i : ℕ) → counted_of k (take i ps) ≤ counted_of k ps
counted-le k [] zero = omega arith
counted-le k [] (suc i) = omega arith
counted-le k (p ∷ ps) zero = omega arith
counted-le k (p ∷ ps) (suc i) = omega (arith, counted-le k ps i)

-- a page's own elements are there
pub sums-within : (es : List Element) (first count i : ℕ) (kind : ColumnType) (bytes : List ℕ)
    → take count (drop first es) ≡ page_elements kind count bytes → i < count → first + i < length es
sums-within es first count i kind bytes is lt =
    omega (
      arith,
      ap (λ (l : List Element). length l) is,
      length-page_elements kind count bytes,
      length-take count (drop first es),
      length-drop first es,
      lt,
    )

-- and their numbers are its values
pub sums-number : (es : List Element) (first count i n : ℕ) (kind : ColumnType) (bytes : List ℕ)
    → take count (drop first es) ≡ page_elements kind count bytes → i < count → n ≡ get_or (numbers es) (first + i) 0
    → n ≡ get_or (page_values kind count bytes) i 0
sums-number es first count i n kind bytes is lt e =
    let number : Element → ℕ = λ x. x.0 in
    let none : Element = (0, 0) in
    let page : List Element = page_elements kind count bytes in
    e ∙ get_or-map number es (first + i) none 0 (sums-within es first count i kind bytes is lt)
    ∙ ap number (sym (get_or-take count (drop first es) i none lt ∙ get_or-drop first es i none)
    ∙ ap (λ (l : List Element). get_or l i none) is)
    ∙ sym (get_or-map number page i none 0 (omega (arith, lt, length-page_elements kind count bytes)))
    ∙ ap (λ (l : List ℕ). get_or l i 0) (numbers-of_page kind count bytes)

-- a page has the bytes of its elements
pub page-sized : (l : Loaded) (store : List ℕ) (ps : List PagePlace) (zs : List ZeroColumn) (t : Table) (i : ℕ) (p : PagePlace)
    (bytes : List ℕ) → IsClusterLaid store ps zs t.places.items t.columns.items t.sums.items → loaded_with ps (cut_up ps store) zs ≡ l
    → i < length ps
    → p ≡ get_or ps i p → bytes ≡ take (get_or l.pages i p).size (get_or l.stored i []) → length bytes ≡ page_size p.kind p.count
page-sized l store ps zs t i p bytes laid is lt here e =
    let places = t.places.items in
    let q : PagePlace = get_or ps i p in
    let at : ℕ = (get_or places i no_place).at in
    let own : bytes ≡ take q.size (get_or (cut_up ps store) i []) = rw (sym is) at e in
    let same : bytes ≡ take q.size (drop at store) = own ∙ sym (page-stored store ps places i p no_place laid.at lt) in
    ap (λ (l : List ℕ). length l) same
    ∙ length-take-le q.size (drop at store)
    (omega (arith, length-drop at store, page-lies store ps places i p no_place laid.at laid.len lt))
    ∙ laid.sized i p lt ∙ sym (ap (λ (x : PagePlace). page_size x.kind x.count) here)

-- a page whose column's numbers weren't added up
pub page-single : (store : List ℕ) (ps : List PagePlace) (zs : List ZeroColumn) (t : Table) (i : ℕ) (p : PagePlace)
    → IsClusterLaid store ps zs t.places.items t.columns.items t.sums.items → i < length ps → p ≡ get_or ps i p
    → ((s : ℕ) → held_at t.columns.items p.column ≡ Sums s → ⊥) → IsSplitIndex p.kind → ⊥
page-single store ps zs t i p laid lt here none =
    kind-single store t.places.items t.sums.items (held_at t.columns.items p.column) (pages_with p.column ps (cut_up ps store)) p.kind
    (laid.held p.column)
    (kind-of_page p.column ps (cut_up ps store) (length-cut ps store) laid.order i p lt (sym (ap (λ (x : PagePlace). x.column) here))
    ∙ ap (λ (x : PagePlace). Some x.kind) (sym here))
    none

-- the buffer of a column whose numbers were added up has the elements of its pages
sums-of : (store : List ℕ) (places : List PageAt) (sums : List Buffer) (h : Held) (ms : List (PagePlace × List ℕ)) (s : ℕ) (b : Buffer)
    → IsHeld store places sums h ms → h ≡ Sums s → b ≡ get_or sums s b → b.column.elements ≡ elements_with ms
sums-of store places sums h ms s b is held here =
    let added = rw held at is in
    ap (λ (x : Buffer). x.column.elements) here ∙ ap (λ (c : Column). c.elements) (added.gives b)

pub sums-elements : (store : List ℕ) (ps : List PagePlace) (zs : List ZeroColumn) (t : Table) (k : ℕ) (b : Buffer)
    → IsClusterLaid store ps zs t.places.items t.columns.items t.sums.items → HasSums t k b
    → b.column.elements ≡ elements_with (pages_with k ps (cut_up ps store))
sums-elements store ps zs t k b laid (s, held, here) =
    sums-of store t.places.items t.sums.items (held_at t.columns.items k) (pages_with k ps (cut_up ps store)) s b (laid.held k) held here

-- all pages of the column have no more elements than the buffer
pub sums-counted : (store : List ℕ) (ps : List PagePlace) (zs : List ZeroColumn) (t : Table) (k : ℕ) (b : Buffer)
    → IsClusterLaid store ps zs t.places.items t.columns.items t.sums.items → HasSums t k b → counted_of k ps ≡ length b.column.elements
sums-counted store ps zs t k b laid has =
    counted-all k ps (cut_up ps store) (length-cut ps store)
    ∙ ap (λ (l : List Element). length l) (sym (sums-elements store ps zs t k b laid has))

-- the elements of a page in the buffer of its column
pub sums-page : (l : Loaded) (store : List ℕ) (ps : List PagePlace) (zs : List ZeroColumn) (t : Table) (i first : ℕ) (p : PagePlace)
    (b : Buffer) (bytes : List ℕ) → IsClusterLaid store ps zs t.places.items t.columns.items t.sums.items
    → loaded_with ps (cut_up ps store) zs ≡ l → i < length ps → p ≡ get_or ps i p → HasSums t p.column b
    → first ≡ counted_of p.column (take i ps) → bytes ≡ take (get_or l.pages i p).size (get_or l.stored i [])
    → take p.count (drop first b.column.elements) ≡ page_elements p.kind p.count bytes
sums-page l store ps zs t i first p b bytes laid is lt here has before e =
    let q : PagePlace = get_or ps i p in
    let es : List Element = elements_with (pages_with p.column ps (cut_up ps store)) in
    let own : bytes ≡ take q.size (get_or (cut_up ps store) i []) = rw (sym is) at e in
    let among : take q.count (drop (counted_of p.column (take i ps)) es)
    ≡ page_elements q.kind q.count (take q.size (get_or (cut_up ps store) i [])) =
    page-among p.column ps (cut_up ps store) (length-cut ps store) i p lt (sym (ap (λ (x : PagePlace). x.column) here)) in
    ap (λ (x : PagePlace). take x.count (drop first b.column.elements)) here
    ∙ ap (λ (n : ℕ). take q.count (drop n b.column.elements)) before
    ∙ ap (λ (l : List Element). take q.count (drop (counted_of p.column (take i ps)) l)) (sums-elements store ps zs t p.column b laid has)
    ∙ among
    ∙ ap (λ (l : List ℕ). page_elements q.kind q.count l) (sym own)
    ∙ sym (ap (λ (x : PagePlace). page_elements x.kind x.count bytes) here)
