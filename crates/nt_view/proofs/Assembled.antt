-- A cluster whose table is whole.
use Rattle.std.proofs.Common.{◌≡◌, ℕ, zero, suc, ◌+◌, ◌<◌, ◌≤◌, List, [], ◌∷◌, length, take}
use Rattle.std.proofs.Common.{drop, get_or, None, Some, refl, sym, ap, ◌∙◌, arith}
use Rattle.std.proofs.Common.{if◌then◌else◌, Bool, true, false, All}
use Rattle.std.proofs.lemmas.List.{take_all, take-take, drop-drop}
use Rattle.nt_column.specs.Column.{Buffer}
use Rattle.nt_view.specs.declared.page_place.PagePlace.{PagePlace}
use Rattle.nt_view.specs.declared.page_place.ZeroColumn.{ZeroColumn}
use Rattle.nt_view.specs.declared.place.PageAt.{PageAt}
use Rattle.nt_view.specs.declared.table.Table.{Table}
use Rattle.nt_view.specs.declared.table.Held.{Held}
use Rattle.nt_view.specs.declared.table.Held.TheVariants.{Zeros, Pages, Sums}
use Rattle.nt_view.specs.Loads.{loaded_len}
use Rattle.nt_view.specs.Loaded.{AreLoadable, pages_with}
use Rattle.nt_view.specs.Stores.{lens_of, cut_up}
use Rattle.nt_view.specs.Table.{held_at, IsHeld, AreHeld, AreZeros, HasSamePages, IsLaidTo, AreAt}
use Rattle.nt_view.proofs.Columns.{pages-none, end-laid}

-- of a column without pages zeros are held
none-held : (store : List ℕ) (places : List PageAt) (sums : List Buffer) (h : Held) (ms : List (PagePlace × List ℕ)) → ms ≡ []
    → IsHeld store places sums h ms → AreZeros h
none-held store places sums (Zeros n) ms none is = (n, refl)
none-held store places sums (Pages kind begin end count) ms none is = absurd (some (rw none at is.of_kind))
  where
    some : None ≡ Some kind → ⊥
    some e = cc
none-held store places sums (Sums s) ms none is = absurd (some (rw none at is.of_kind))
  where
    some : None ≡ Some is.kind → ⊥
    some e = cc

-- the columns of zeros have none
pub apart-held : (store : List ℕ) (ps : List PagePlace) (zs : List ZeroColumn) (t : Table) → AreLoadable ps zs
    → IsLaidTo store ps (length ps) t → All (λ (z : ZeroColumn). AreZeros (held_at t.columns.items z.column)) zs
apart-held store ps zs t listed laid i d lt =
    let k = (get_or zs i d).column in
    let front : take (length ps) ps ≡ ps = take_all (length ps) ps (omega arith) in
    none-held store t.places.items t.sums.items (held_at t.columns.items k)
    (pages_with k (take (length ps) ps) (cut_up (take (length ps) ps) store))
    (pages-none k (take (length ps) ps) (cut_up (take (length ps) ps) store) (rw front (listed.apart i d lt))) (laid.held k)

-- what is held where the pages are the same
same-held : (store : List ℕ) (places : List PageAt) (sums : List Buffer) (h g : Held) (ms : List (PagePlace × List ℕ))
    → HasSamePages h g → IsHeld store places sums h ms → IsHeld store places sums g ms
same-held store places sums (Zeros n) g ms (m, same) is = rw same is
same-held store places sums (Pages kind begin end count) g ms same is = rw same is
same-held store places sums (Sums s) g ms same is = rw same is

pub all-held : (store : List ℕ) (ps qs : List PagePlace) (t : Table) (hs : List Held) → IsLaidTo store ps (length ps) t → qs ≡ ps
    → ((k : ℕ) → HasSamePages (held_at t.columns.items k) (held_at hs k))
    → AreHeld store t.places.items t.sums.items hs (λ k. pages_with k qs (cut_up qs store))
all-held store ps qs t hs laid copy same k =
    let front : take (length ps) ps ≡ qs = take_all (length ps) ps (omega arith) ∙ sym copy in
    same-held store t.places.items t.sums.items (held_at t.columns.items k) (held_at hs k) (pages_with k qs (cut_up qs store)) (same k)
    (rw front at (laid.held k))

pub all-at : (ps qs : List PagePlace) (places : List PageAt) → AreAt places (take (length ps) ps) → qs ≡ ps → AreAt places qs
all-at ps qs places at copy = rw (take_all (length ps) ps (omega arith) ∙ sym copy) at at

-- the bytes of a page in the store
pub cut-at : (ps : List PagePlace) (i : ℕ) (d : PagePlace) (bytes : List ℕ) → i < length ps
    → get_or (cut_up ps bytes) i [] ≡ take (loaded_len (get_or ps i d)) (drop (lens_of (take i ps)) bytes)
cut-at [] i d bytes lt = absurd (omega (arith, lt))
cut-at (p ∷ ps) zero d bytes lt = refl
cut-at (p ∷ ps) (suc i) d bytes lt =
    cut-at ps i d (drop (loaded_len p) bytes) (omega (arith, lt))
    ∙ ap (λ (l : List ℕ). take (loaded_len (get_or ps i d)) l) (drop-drop (lens_of (take i ps)) (loaded_len p) bytes)

len-le : (checked : Bool) (size : ℕ) → size ≤ (if checked then size + 8 else size)
len-le true size = omega arith
len-le false size = omega arith

-- a page lies in the store
pub page-lies : (store : List ℕ) (ps : List PagePlace) (places : List PageAt) (i : ℕ) (d : PagePlace) (e : PageAt) → AreAt places ps
    → length store ≡ lens_of ps → i < length ps → (get_or places i e).at + (get_or ps i d).size ≤ length store
page-lies store ps places i d e are long lt =
    let p = get_or ps i d in
    omega (arith, are.at i e lt, end-laid ps i d lt, len-le p.checked p.size, long)

pub page-stored : (store : List ℕ) (ps : List PagePlace) (places : List PageAt) (i : ℕ) (d : PagePlace) (e : PageAt) → AreAt places ps
    → i < length ps
    → take (get_or ps i d).size (drop (get_or places i e).at store) ≡ take (get_or ps i d).size (get_or (cut_up ps store) i [])
page-stored store ps places i d e are lt =
    let p = get_or ps i d in
    sym (ap (λ (l : List ℕ). take p.size l) (cut-at ps i d store lt)
    ∙ take-take p.size (loaded_len p) (drop (lens_of (take i ps)) store) (len-le p.checked p.size)
    ∙ ap (λ (n : ℕ). take p.size (drop n store)) (sym (are.at i e lt)))

-- with its checksum it lies there too
pub page-whole : (store : List ℕ) (ps : List PagePlace) (places : List PageAt) (i : ℕ) (d : PagePlace) (e : PageAt) → AreAt places ps
    → length store ≡ lens_of ps → i < length ps → (get_or places i e).at + loaded_len (get_or ps i d) ≤ length store
page-whole store ps places i d e are long lt = omega (arith, are.at i e lt, end-laid ps i d lt, long)

pub page-kept : (store : List ℕ) (ps : List PagePlace) (places : List PageAt) (i : ℕ) (d : PagePlace) (e : PageAt) → AreAt places ps
    → i < length ps
    → take (loaded_len (get_or ps i d)) (drop (get_or places i e).at store) ≡ get_or (cut_up ps store) i []
page-kept store ps places i d e are lt =
    ap (λ (n : ℕ). take (loaded_len (get_or ps i d)) (drop n store)) (are.at i e lt) ∙ sym (cut-at ps i d store lt)
