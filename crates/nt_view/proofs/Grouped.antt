-- The table with the column of one group of pages more.
use Rattle.std.proofs.Common.{◌≡◌, ℕ, zero, suc, ◌+◌, ◌-◌, ◌<◌, ◌≤◌, List, [], ◌∷◌, ◌++◌, length, take, drop, get_or}
use Rattle.std.proofs.Common.{refl, sym, ap, ◌∙◌, arith, ⊎_elim}
use Rattle.std.specs.List.{slice_range}
use Rattle.std.proofs.lemmas.Bool.{cases_lt}
use Rattle.std.proofs.lemmas.List.{length-append, length-take-le, get_or_append_left, get_or-append-add, take-take}
use Rattle.nt_view.specs.declared.page_place.PagePlace.{PagePlace}
use Rattle.nt_view.specs.declared.place.PageAt.{PageAt}
use Rattle.nt_view.specs.declared.table.Table.{Table}
use Rattle.nt_view.specs.declared.table.Held.{Held}
use Rattle.nt_view.specs.Loaded.{AreLoadable}
use Rattle.nt_view.specs.Stores.{lens_of}
use Rattle.nt_view.specs.Table.{held_at, laid_from, zeros_held, IsPageGroup, IsColumnAt, AreAt, GainsColumn, IsLaidTo}
use Rattle.nt_view.proofs.Columns.{at-laid, length-laid, lens-append}
use Rattle.nt_view.proofs.Held.{held-push, held-else, slice-at, length-slice, take-slice, group-kind, group-next, group-held, decide}

lens-le : (ps : List PagePlace) (j : ℕ) → lens_of (take j ps) ≤ lens_of ps
lens-le [] zero = omega arith
lens-le [] (suc j) = omega arith
lens-le (p ∷ ps) zero = omega arith
lens-le (p ∷ ps) (suc j) = omega (arith, lens-le ps j)

pub lens-slice : (ps : List PagePlace) (i j : ℕ) → i ≤ j → lens_of (take j ps) ≡ lens_of (take i ps) + lens_of (slice_range ps i j)
lens-slice ps i j order = ap (λ (l : List PagePlace). lens_of l) (take-slice ps i j order) ∙ lens-append (take i ps) (slice_range ps i j)

-- a group of listed pages is a column in the store
pub group-column : (store : List ℕ) (ps : List PagePlace) (i j at : ℕ) → AreLoadable ps [] → IsPageGroup ps i j → at ≡ lens_of (take i ps)
    → length store ≡ lens_of ps → IsColumnAt store (slice_range ps i j) at
group-column store ps i j at listed g place long =
    let order : i ≤ j = omega (arith, g.some) in
    let len : length (slice_range ps i j) ≡ j - i = length-slice ps i j order g.within in
    record {
      some = omega (arith, len, g.some);
      sized = λ m d lt.
          let inside : m < j - i = omega (arith, lt, len) in
          rw (slice-at ps i j m d inside) (listed.sized (i + m) d (omega (arith, inside, g.within)));
      same = λ m d lt.
          let inside : m < j - i = omega (arith, lt, len) in
          let first : get_or (slice_range ps i j) 0 d ≡ get_or ps (i + 0) d = slice-at ps i j 0 d (omega (arith, g.some)) in
          let here : i + 0 ≡ i = omega arith in
          ap (λ (p : PagePlace). p.kind) (slice-at ps i j m d inside)
          ∙ group-kind ps i j d listed.order g m (omega (arith, inside))
          ∙ ap (λ (k : ℕ). (get_or ps k d).kind) (sym here)
          ∙ ap (λ (p : PagePlace). p.kind) (sym first);
      within = omega (arith, place, long, lens-slice ps i j order, lens-le ps j);
    }

-- each page has its place, with those of a group more
group-at : (ps : List PagePlace) (i j at : ℕ) (old new : List PageAt) → i ≤ j → j ≤ length ps → at ≡ lens_of (take i ps)
    → AreAt old (take i ps) → new ≡ old ++ laid_from 0 at (slice_range ps i j) → AreAt new (take j ps)
group-at ps i j at old new order within place are more =
    let group = slice_range ps i j in
    let long : length group ≡ j - i = length-slice ps i j order within in
    let first : length (take i ps) ≡ i = length-take-le i ps (omega (arith, order, within)) in
    let whole : length (take j ps) ≡ j = length-take-le j ps within in
    let size : length new ≡ length old + length group =
    ap (λ (l : List PageAt). length l) more ∙ length-append old (laid_from 0 at group)
    ∙ ap (λ (n : ℕ). length old + n) (length-laid group 0 at) in
    record {
      all = omega (arith, size, long, first, whole, are.all, order);
      at = λ m d lt. ⊎_elim
          (λ low.
          ap (λ (l : List PageAt). (get_or l m d).at) more
          ∙ ap (λ (p : PageAt). p.at) (get_or_append_left old (laid_from 0 at group) d m (omega (arith, low, are.all, first)))
          ∙ are.at m d (omega (arith, low, first))
          ∙ ap (λ (l : List PagePlace). lens_of l) (take-take m i ps (omega (arith, low))
          ∙ sym (take-take m j ps (omega (arith, low, order)))))
          (λ high.
          let n : ℕ = m - i in
          let split : length old + n ≡ m = omega (arith, high, are.all, first) in
          let there : n < length group = omega (arith, lt, whole, long, high) in
          let to : i + n ≡ m = omega (arith, high) in
          let end : lens_of (take m ps) ≡ lens_of (take i ps) + lens_of (slice_range ps i m) = lens-slice ps i m (omega (arith, high)) in
          let part : take n group ≡ slice_range ps i m = take-take n (j - i) (drop i ps) (omega (arith, there, long)) in
          ap (λ (l : List PageAt). (get_or l m d).at) more
          ∙ ap (λ (k : ℕ). (get_or (old ++ laid_from 0 at group) k d).at) (sym split)
          ∙ ap (λ (p : PageAt). p.at) (get_or-append-add old (laid_from 0 at group) n d)
          ∙ at-laid group 0 at n d there
          ∙ omega (
            arith,
            place,
            end,
            ap (λ (l : List PagePlace). lens_of l) part,
            ap (λ (l : List PagePlace). lens_of l) (take-take m j ps (omega (arith, lt, whole))),
          ))
          (cases_lt m i);
    }

-- the table says the columns to the end of the group
pub group-laid : (store : List ℕ) (ps : List PagePlace) (i j at : ℕ) (d : PagePlace) (old filled new : Table) → IsPageGroup ps i j
    → at ≡ lens_of (take i ps) → IsLaidTo store ps i old → filled.places ≡ old.places → filled.sums ≡ old.sums
    → ((k : ℕ) → held_at filled.columns.items k ≡ held_at old.columns.items k)
    → length filled.columns.items ≡ (get_or ps i d).column
    → GainsColumn store (slice_range ps i j) at filled new → IsLaidTo store ps j new
group-laid store ps i j at d old filled new g place laid places sums same len gain =
    let order : i ≤ j = omega (arith, g.some) in
    record {
      held = group-held store ps i j (get_or ps i d).column at d filled new g refl len place
          (λ k. rw (same k, places, sums) (laid.held k)) gain;
      none = λ k. ⊎_elim
          (λ is. ap (λ (l : List Held). zeros_held (held_at l k)) gain.columns
          ∙ ap zeros_held (held-push filled.columns.items gain.held k is) ∙ gain.none)
          (λ other. ap (λ (l : List Held). zeros_held (held_at l k)) gain.columns
          ∙ ap zeros_held (held-else filled.columns.items gain.held k other ∙ same k) ∙ laid.none k)
          (decide k (length filled.columns.items));
      at = group-at ps i j at filled.places.items new.places.items order g.within place (rw places laid.at) gain.places;
    }

-- the next group's column isn't in the table yet
pub group-behind : (store : List ℕ) (ps : List PagePlace) (i j at : ℕ) (d : PagePlace) (filled new : Table) → AreLoadable ps []
    → IsPageGroup ps i j
    → length filled.columns.items ≡ (get_or ps i d).column → GainsColumn store (slice_range ps i j) at filled new
    → j < length ps → length new.columns.items ≤ (get_or ps j d).column
group-behind store ps i j at d filled new listed g len gain lt =
    omega (
      arith,
      group-next ps i j d listed.order g lt,
      len,
      ap (λ (l : List Held). length l) gain.columns,
      length-append filled.columns.items (gain.held ∷ []),
    )
