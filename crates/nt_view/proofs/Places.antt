-- Which page an element stands in.
use Rattle.std.proofs.Common.{◌≡◌, ℕ, zero, suc, ⊎_elim, inl, inr, ◌+◌, ◌<◌, ◌≤◌, List, [], ◌∷◌, length, take, get_or, sym, ap, ◌∙◌, arith}
use Rattle.std.proofs.lemmas.Bool.{cases_lt}
use Rattle.std.proofs.lemmas.List.{take_more, take_all}
use Rattle.std.proofs.lemmas.List.Sums.{sum_by-append}
use Rattle.nt_view.specs.declared.place.PageAt.{PageAt}
use Rattle.nt_view.specs.Pages.{count_of, Follow, IsIn, LieInOne}
use Rattle.nt_view.specs.Searching.{IsBetween}

-- one page more
pub count-more : (ps : List PageAt) (j : ℕ) (d : PageAt) → j < length ps
    → count_of (take (j + 1) ps) ≡ count_of (take j ps) + (get_or ps j d).count
count-more ps j d lt =
    let count = λ (p : PageAt). p.count in
    ap count_of (take_more ps j d lt) ∙ sum_by-append count (take j ps) (get_or ps j d ∷ []) ∙ omega arith

count-cons : (p : PageAt) (ps : List PageAt) → count_of (p ∷ ps) ≡ p.count + count_of ps
count-cons p ps = sum_by-append (λ (q : PageAt). q.count) (p ∷ []) ps ∙ omega arith

-- fewer pages have no more elements
pub count-rises : (ps : List PageAt) (a b : ℕ) → a ≤ b → count_of (take a ps) ≤ count_of (take b ps)
count-rises [] zero zero le = omega arith
count-rises [] zero (suc b) le = omega arith
count-rises [] (suc a) zero le = omega arith
count-rises [] (suc a) (suc b) le = omega arith
count-rises (p ∷ ps) zero b le = omega arith
count-rises (p ∷ ps) (suc a) zero le = absurd (omega (arith, le))
count-rises (p ∷ ps) (suc a) (suc b) le =
    omega (arith, count-cons p (take a ps), count-cons p (take b ps), count-rises ps a b (omega (arith, le)))

pub count-le : (ps : List PageAt) (a : ℕ) → count_of (take a ps) ≤ count_of ps
count-le ps a = ⊎_elim
    (λ lt. let all : take (length ps) ps ≡ ps = take_all (length ps) ps (omega arith) in
    omega (arith, count-rises ps a (length ps) (omega (arith, lt)), ap count_of all))
    (λ ge. let all : take a ps ≡ ps = take_all a ps ge in omega (arith, ap count_of all))
    (cases_lt a (length ps))

pub between-all : (ps : List PageAt) (i : ℕ) → i < count_of ps → IsBetween ps 0 (length ps) i
between-all [] i lt = absurd (omega (arith, lt))
between-all (p ∷ ps) i lt = record {
  some = omega arith;
  there = omega arith;
  from = omega arith;
  before = rw (take_all (length (p ∷ ps)) (p ∷ ps) (omega arith)) lt;
}

pub between-found : (ps : List PageAt) (low high i : ℕ) → Follow ps → IsBetween ps low high i → high ≤ low + 1 → IsIn ps low i
between-found ps low high i follow h last =
    let next : high ≡ low + 1 = omega (arith, h.some, last) in
    let lt : low < length ps = omega (arith, h.there, next) in
    let before : i < count_of (take (low + 1) ps) = rw (sym next) h.before in
    record {
      there = lt;
      from = λ d. omega (arith, follow low d lt, h.from);
      before = λ d. omega (arith, follow low d lt, before, count-more ps low d lt);
    }

-- the upper part
pub between-up : (ps : List PageAt) (low middle high i : ℕ) (d : PageAt) → Follow ps → IsBetween ps low high i → middle < high
    → (get_or ps middle d).first ≤ i → IsBetween ps middle high i
between-up ps low middle high i d follow h lt le = record {
  some = lt;
  there = h.there;
  from = omega (arith, follow middle d (omega (arith, lt, h.there)), le);
  before = h.before;
}

-- the lower part
pub between-down : (ps : List PageAt) (low middle high i : ℕ) (d : PageAt) → Follow ps → IsBetween ps low high i → low < middle
    → middle < high
    → i < (get_or ps middle d).first → IsBetween ps low middle i
between-down ps low middle high i d follow h some lt past = record {
  some = some;
  there = omega (arith, lt, h.there);
  from = h.from;
  before = omega (arith, follow middle d (omega (arith, lt, h.there)), past);
}

-- of the pages none but the one that has the first of some elements can have them all
pub only-in : (ps : List PageAt) (j from to : ℕ) (e : PageAt) → Follow ps → IsIn ps j from → from < to
    → (get_or ps j e).first + (get_or ps j e).count < to → LieInOne ps from to → ⊥
only-in ps j from to e follow h some past (inl same) = omega (arith, same, some)
only-in ps j from to e follow h some past (inr (p, (k, there, is), low, high)) =
    let first : p.first ≡ count_of (take k ps) = sym (ap (λ (q : PageAt). q.first) is) ∙ follow k p there in
    let next : count_of (take (k + 1) ps) ≡ count_of (take k ps) + p.count =
    count-more ps k p there ∙ ap (λ (q : PageAt). count_of (take k ps) + q.count) is in
    let end : count_of (take (j + 1) ps) ≡ (get_or ps j e).first + (get_or ps j e).count =
    omega (arith, count-more ps j e h.there, follow j e h.there) in
    ⊎_elim
    (λ lt. omega (arith, count-rises ps (j + 1) k (omega (arith, lt)), end, first, low, h.before e))
    (λ ge. omega (arith, count-rises ps (k + 1) (j + 1) (omega (arith, ge)), end, first, next, high, past))
    (cases_lt j k)
