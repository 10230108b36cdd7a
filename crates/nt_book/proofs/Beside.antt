-- Ranges and page lists that are added behind others.
use Rattle.std.proofs.Common.{◌≡◌, ◌∙◌, ap, sym, refl, subst, ℕ, zero, suc, ◌+◌, ◌≤◌, List, [], ◌∷◌, ◌++◌, length, take, drop, arith}
use Rattle.std.proofs.lemmas.List.Sums.{sum_by-append, sum_by-cons}
use Rattle.std.proofs.lemmas.List.{length-drop, take-append-drop}
use Rattle.nt_machine.specs.Spans.{Span, AreBehindSpans}
use Rattle.nt_book.specs.declared.list.NotedList.{NotedList}
use Rattle.nt_book.specs.Listing.{AreBeside, clusters_listed, lists_bytes, spans_len}

take-more : {A : Type 0} (n : ℕ) (xs : List A) (x : A) → n ≤ length xs → take n (xs ++ x ∷ []) ≡ take n xs
take-more zero xs x le = refl
take-more (suc n) [] x le = absurd (omega (arith, le))
take-more (suc n) (y ∷ xs) x le = ap (λ (l : List _). y ∷ l) (take-more n xs x (omega (arith, le)))

drop-more : {A : Type 0} (n : ℕ) (xs : List A) (x : A) → n ≤ length xs → drop n (xs ++ x ∷ []) ≡ drop n xs ++ x ∷ []
drop-more zero xs x le = refl
drop-more (suc n) [] x le = absurd (omega (arith, le))
drop-more (suc n) (y ∷ xs) x le = drop-more n xs x (omega (arith, le))

take-all : {A : Type 0} (n : ℕ) (xs : List A) → n ≡ length xs → take n xs ≡ xs
take-all zero [] is = refl
take-all zero (x ∷ xs) is = absurd (omega (arith, is))
take-all (suc n) [] is = absurd (omega (arith, is))
take-all (suc n) (x ∷ xs) is = ap (λ (l : List _). x ∷ l) (take-all n xs (omega (arith, is)))

drop-all : {A : Type 0} (n : ℕ) (xs : List A) → n ≡ length xs → drop n xs ≡ []
drop-all zero [] is = refl
drop-all zero (x ∷ xs) is = absurd (omega (arith, is))
drop-all (suc n) [] is = absurd (omega (arith, is))
drop-all (suc n) (x ∷ xs) is = drop-all n xs (omega (arith, is))

spans_len-split : (n : ℕ) (spans : List Span) → spans_len (take n spans) + spans_len (drop n spans) ≡ spans_len spans
spans_len-split n spans = sym (sum_by-append (λ (s : Span). s.len) (take n spans) (drop n spans)) ∙ ap spans_len (take-append-drop n spans)

behind-more : (place : ℕ) (spans : List Span) (s : Span) → AreBehindSpans place spans → s.start ≡ place + spans_len spans
    → AreBehindSpans place (spans ++ s ∷ [])
behind-more place [] s h is = (omega (arith, is), tt)
behind-more place (d ∷ spans) s h is =
    (h.0, behind-more (place + d.len) spans s h.1 (omega (arith, is, sum_by-cons (λ (e : Span). e.len) d spans)))

-- a range that starts where all others and their lists end
pub beside-range : (place most : ℕ) (ls : List NotedList) (spans : List Span) (s : Span) → clusters_listed most ls ≤ length spans
    → AreBeside place most ls spans → s.start ≡ place + spans_len spans + lists_bytes ls → AreBeside place most ls (spans ++ s ∷ [])
beside-range place most [] spans s le h is = behind-more place spans s h (omega (arith, is))
beside-range place most (l ∷ ls) spans s le h is =
    let first = take-more most spans s (omega (arith, le)) in
    let rest = drop-more most spans s (omega (arith, le)) in
    let next = place + spans_len (take most spans) + l.len in (
      subst (AreBehindSpans place) (sym first) h.0,
      subst (λ (t : List Span). AreBeside (place + spans_len t + l.len) most ls (drop most (spans ++ s ∷ []))) (sym first)
          (subst (AreBeside next most ls) (sym rest)
          (beside-range next most ls (drop most spans) s (omega (arith, le, length-drop most spans)) h.1
          (omega (arith, is, spans_len-split most spans, sum_by-cons (λ (k : NotedList). k.len) l ls)))),
    )

-- a list behind a group that had none
pub beside-list : (place most : ℕ) (ls : List NotedList) (spans : List Span) (l : NotedList)
    → clusters_listed most ls + most ≡ length spans → AreBeside place most ls spans → AreBeside place most (ls ++ l ∷ []) spans
beside-list place most [] spans l is h =
    let all = take-all most spans (omega (arith, is)) in
    let none = drop-all most spans (omega (arith, is)) in (
      subst (AreBehindSpans place) (sym all) h,
      subst (AreBehindSpans (place + spans_len (take most spans) + l.len)) (sym none) tt,
    )
beside-list place most (k ∷ ls) spans l is h = (
  h.0,
  beside-list (place + spans_len (take most spans) + k.len) most ls (drop most spans) l
      (omega (arith, is, length-drop most spans)) h.1,
)

pub clusters_listed-more : (most : ℕ) (ls : List NotedList) (l : NotedList)
    → clusters_listed most (ls ++ l ∷ []) ≡ clusters_listed most ls + most
clusters_listed-more most [] l = omega arith
clusters_listed-more most (k ∷ ls) l = omega (arith, clusters_listed-more most ls l)

-- each list is of one cluster at least
pub fewer-lists : (most : ℕ) (ls : List NotedList) → 1 ≤ most → length ls ≤ clusters_listed most ls
fewer-lists most [] some = omega arith
fewer-lists most (l ∷ ls) some = omega (arith, some, fewer-lists most ls some)
