-- The table of columns, which grows column by column.
use Rattle.std.proofs.Common.{◌≡◌, ℕ, zero, suc, ◌+◌, ◌-◌, ◌<◌, ◌≤◌, ◌⊎◌, inl, inr, List, [], ◌∷◌, ◌++◌, length, map, take, drop, get_or}
use Rattle.std.proofs.Common.{refl, sym, ap, ◌∙◌, arith, ⊎_elim, take-add}
use Rattle.std.specs.List.{slice_range}
use Rattle.std.proofs.lemmas.Bool.{cases_lt}
use Rattle.std.proofs.lemmas.List.{append-nil, length-append, length-take-le, length-drop, take-append-le, drop-append-le}
use Rattle.std.proofs.lemmas.List.{get_or_append_left, get_or-take, get_or-drop, get_or_past, get_or_default}
use Rattle.nt_column.specs.Column.{Buffer}
use Rattle.nt_view.specs.declared.page_place.PagePlace.{PagePlace}
use Rattle.nt_view.specs.declared.place.PageAt.{PageAt}
use Rattle.nt_view.specs.declared.table.Table.{Table}
use Rattle.nt_view.specs.declared.table.Held.{Held}
use Rattle.nt_view.specs.declared.table.Held.TheVariants.{Zeros, Pages, Sums}
use Rattle.nt_view.specs.Loaded.{MayStandBehind, pages_with}
use Rattle.nt_view.specs.Pages.{elements_of_pages, count_of}
use Rattle.nt_view.specs.Stores.{lens_of, cut_up}
use Rattle.nt_view.specs.Table.{held_at, laid_from, pages_at, IsPageGroup, IsHeld, AreHeld, GainsColumn}
use Rattle.nt_view.proofs.Columns.{pages-append, pages-none, pages-all}

-- what is held of a column that was added
pub held-push : (hs : List Held) (h : Held) (k : ℕ) → k ≡ length hs → held_at (hs ++ h ∷ []) k ≡ h
held-push [] h zero e = refl
held-push [] h (suc k) e = absurd (omega (arith, e))
held-push (g ∷ hs) h zero e = absurd (omega (arith, e))
held-push (g ∷ hs) h (suc k) e = held-push hs h k (omega (arith, e))

-- of the others it is as before
pub held-else : (hs : List Held) (h : Held) (k : ℕ) → (k ≡ length hs → ⊥) → held_at (hs ++ h ∷ []) k ≡ held_at hs k
held-else [] h zero e = absurd (e refl)
held-else [] h (suc k) e = refl
held-else (g ∷ hs) h zero e = refl
held-else (g ∷ hs) h (suc k) e = held-else hs h k (λ is. e (ap suc is))

-- a column without elements
pub held-zeros : (hs : List Held) (k : ℕ) → held_at (hs ++ Zeros 0 ∷ []) k ≡ held_at hs k
held-zeros [] zero = refl
held-zeros [] (suc k) = refl
held-zeros (g ∷ hs) zero = refl
held-zeros (g ∷ hs) (suc k) = held-zeros hs k

-- a part of a list that grows
pub slice-kept : {A : Type 0} (xs ys : List A) (a b : ℕ) → a ≤ b → b ≤ length xs → slice_range (xs ++ ys) a b ≡ slice_range xs a b
slice-kept {A = A} xs ys a b order within =
    ap (λ (l : List A). take (b - a) l) (drop-append-le a xs ys (omega (arith, order, within)))
    ∙ take-append-le (b - a) (drop a xs) ys (omega (arith, length-drop a xs, order, within))

-- what is held, when more is added
pub held-more : (store : List ℕ) (places more : List PageAt) (sums others : List Buffer) (h : Held) (ms : List (PagePlace × List ℕ))
    → IsHeld store places sums h ms → IsHeld store (places ++ more) (sums ++ others) h ms
held-more store places more sums others (Zeros n) ms is = is
held-more store places more sums others (Pages kind begin end count) ms is =
    let same : slice_range (places ++ more) begin end ≡ slice_range places begin end =
    slice-kept places more begin end is.order is.within in
    record {
      order = is.order;
      within = omega (arith, is.within, length-append places more);
      are = rw same is.are;
      gives = is.gives ∙ ap (elements_of_pages kind store) (sym same);
      counts = is.counts ∙ ap (λ (l : List PageAt). map (λ (p : PageAt). p.count) l) (sym same);
      all = is.all ∙ ap count_of (sym same);
      of_kind = is.of_kind;
      single = is.single;
    }
held-more store places more sums others (Sums s) ms is = record {
  there = omega (arith, is.there, length-append sums others);
  kind = is.kind;
  of_kind = is.of_kind;
  split = is.split;
  gives = λ d. ap (λ (b : Buffer). b.column) (get_or_append_left sums others d s is.there) ∙ is.gives d;
}

-- an element of a part of a list
pub slice-at : {A : Type 0} (xs : List A) (i j m : ℕ) (d : A) → m < j - i → get_or (slice_range xs i j) m d ≡ get_or xs (i + m) d
slice-at xs i j m d lt = get_or-take (j - i) (drop i xs) m d lt ∙ get_or-drop i xs m d

pub length-slice : {A : Type 0} (xs : List A) (i j : ℕ) → i ≤ j → j ≤ length xs → length (slice_range xs i j) ≡ j - i
length-slice xs i j order within = length-take-le (j - i) (drop i xs) (omega (arith, length-drop i xs, order, within))

pub take-slice : {A : Type 0} (xs : List A) (i j : ℕ) → i ≤ j → take j xs ≡ take i xs ++ slice_range xs i j
take-slice {A = A} xs i j order =
    let n : i + (j - i) ≡ j = omega (arith, order) in
    ap (λ (k : ℕ). take k xs) (sym n) ∙ take-add i (j - i) xs

-- the pages of a group are of one type
pub group-kind : (ps : List PagePlace) (i j : ℕ) (d : PagePlace)
    → ((m : ℕ) (d : PagePlace) → m + 1 < length ps → MayStandBehind (get_or ps m d) (get_or ps (m + 1) d)) → IsPageGroup ps i j
    → (n : ℕ) → i + n < j → (get_or ps (i + n) d).kind ≡ (get_or ps i d).kind
group-kind ps i j d order g zero lt =
    let same : i + 0 ≡ i = omega arith in
    ap (λ (k : ℕ). (get_or ps k d).kind) same
group-kind ps i j d order g (suc n) lt =
    let next : i + suc n ≡ i + n + 1 = omega arith in
    ap (λ (k : ℕ). (get_or ps k d).kind) next ∙ ⊎_elim
    (λ less. absurd (omega (
      arith,
      less,
      g.same (i + n) d (omega arith) (omega (arith, lt)),
      g.same (i + n + 1) d (omega arith) (omega (arith, lt)),
    )))
    (λ is. sym is.1)
    (order (i + n) d (omega (arith, lt, g.within)))
    ∙ group-kind ps i j d order g n (omega (arith, lt))

-- the column behind a group has a higher id
pub group-next : (ps : List PagePlace) (i j : ℕ) (d : PagePlace)
    → ((m : ℕ) (d : PagePlace) → m + 1 < length ps → MayStandBehind (get_or ps m d) (get_or ps (m + 1) d)) → IsPageGroup ps i j
    → j < length ps → (get_or ps i d).column < (get_or ps j d).column
group-next ps i j d order g lt =
    let last : j - 1 + 1 ≡ j = omega (arith, g.some) in
    let same : (get_or ps (j - 1) d).column ≡ (get_or ps i d).column = g.same (j - 1) d (omega (arith, g.some)) (omega (arith, g.some)) in
    let at : (get_or ps (j - 1 + 1) d).column ≡ (get_or ps j d).column = ap (λ (k : ℕ). (get_or ps k d).column) last in
    ⊎_elim
    (λ less. omega (arith, less, same, at))
    (λ is. absurd (g.last d lt (sym at ∙ sym is.0 ∙ same)))
    (order (j - 1) d (omega (arith, last, lt)))

any-default : (ps : List PagePlace) (m : ℕ) (d e : PagePlace) → m < length ps → get_or ps m d ≡ get_or ps m e
any-default ps m d e lt = get_or_default ps m d e lt

pub decide : (a b : ℕ) → (a ≡ b) ⊎ (a ≡ b → ⊥)
decide a b = ⊎_elim (λ lt. inr (λ is. omega (arith, lt, is)))
    (λ le. ⊎_elim (λ lt. inr (λ is. omega (arith, lt, is))) (λ ge. inl (omega (arith, le, ge))) (cases_lt b a)) (cases_lt a b)

-- the table with the column of a group
pub group-held : (store : List ℕ) (ps : List PagePlace) (i j c at : ℕ) (d : PagePlace) (old new : Table) → IsPageGroup ps i j
    → c ≡ (get_or ps i d).column → length old.columns.items ≡ c → at ≡ lens_of (take i ps)
    → AreHeld store old.places.items old.sums.items old.columns.items (λ k. pages_with k (take i ps) (cut_up (take i ps) store))
    → GainsColumn store (slice_range ps i j) at old new
    → AreHeld store new.places.items new.sums.items new.columns.items (λ k. pages_with k (take j ps) (cut_up (take j ps) store))
group-held store ps i j c at d old new g here len place held gain k =
    let group = slice_range ps i j in
    let order : i ≤ j = omega (arith, g.some) in
    let long : length group ≡ j - i = length-slice ps i j order g.within in
    let columns : (m : ℕ) (e : PagePlace) → m < length group → (get_or group m e).column ≡ c = λ m e lt.
    let inside : m < j - i = omega (arith, lt, long) in
    ap (λ (p : PagePlace). p.column) (slice-at ps i j m e inside) ∙ g.same (i + m) e (omega arith) (omega (arith, inside))
    ∙ ap (λ (p : PagePlace). p.column) (any-default ps i e d (omega (arith, g.some, g.within))) ∙ sym here in
    let whole : pages_with k (take j ps) (cut_up (take j ps) store)
    ≡ pages_with k (take i ps) (cut_up (take i ps) store) ++ pages_with k group (cut_up group (drop at store)) =
    ap (λ (l : List PagePlace). pages_with k l (cut_up l store)) (take-slice ps i j order)
    ∙ pages-append k (take i ps) group store
    ∙ ap (λ (n : ℕ). pages_with k (take i ps) (cut_up (take i ps) store) ++ pages_with k group (cut_up group (drop n store))) (sym place) in
    let kept : IsHeld store new.places.items new.sums.items (held_at old.columns.items k)
    (pages_with k (take i ps) (cut_up (take i ps) store)) =
    rw (gain.places, gain.added)
    (held-more store old.places.items (laid_from 0 at group) old.sums.items gain.sums (held_at old.columns.items k)
    (pages_with k (take i ps) (cut_up (take i ps) store)) (held k)) in
    ⊎_elim
    (λ (is : k ≡ c).
    let past : held_at old.columns.items k ≡ Zeros 0 = get_or_past old.columns.items k (Zeros 0) (omega (arith, is, len)) in
    let none : pages_with k (take i ps) (cut_up (take i ps) store) ≡ [] = rw past at (held k) in
    let mine : pages_with k (take j ps) (cut_up (take j ps) store) ≡ pages_at store group at =
    whole ∙ ap (λ (l : List (PagePlace × List ℕ)). l ++ pages_with k group (cut_up group (drop at store))) none
    ∙ pages-all k group (cut_up group (drop at store)) (λ m e lt. columns m e lt ∙ sym is) in
    let here_held : held_at new.columns.items k ≡ gain.held =
    ap (λ (l : List Held). held_at l k) gain.columns ∙ held-push old.columns.items gain.held k (is ∙ sym len) in
    rw (here_held, mine) gain.is)
    (λ (other : k ≡ c → ⊥).
    let nothing : pages_with k group (cut_up group (drop at store)) ≡ [] =
    pages-none k group (cut_up group (drop at store)) (λ m e lt is. other (sym is ∙ columns m e lt)) in
    let same : pages_with k (take j ps) (cut_up (take j ps) store) ≡ pages_with k (take i ps) (cut_up (take i ps) store) =
    whole ∙ ap (λ (l : List (PagePlace × List ℕ)). pages_with k (take i ps) (cut_up (take i ps) store) ++ l) nothing
    ∙ append-nil (pages_with k (take i ps) (cut_up (take i ps) store)) in
    let as_before : held_at new.columns.items k ≡ held_at old.columns.items k =
    ap (λ (l : List Held). held_at l k) gain.columns ∙ held-else old.columns.items gain.held k (λ is. other (is ∙ len)) in
    rw (as_before, same) kept)
    (decide k c)
