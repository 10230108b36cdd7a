-- Answers come to stand in the order of their jobs.
use Rattle.std.proofs.Common.{◌≡◌, ◌≢◌, ℕ, zero, suc, ◌+◌, ◌<◌, ◌≤◌, ◌==◌, if◌then◌else◌, List, [], ◌∷◌, ◌++◌, length, take, drop, sym}
use Rattle.std.proofs.Common.{refl, ap, ◌∙◌, subst, arith, ⊎_elim, inl, inr, ◌⊎◌}
use Rattle.std.proofs.lemmas.Bool.Decides.{nat_tests}
use Rattle.std.specs.Prelude.{slice_index_or}
use Rattle.std.specs.List.{AllByRecursion, remove}
use mathlib.Core.Option.{some, some-ne-none, some-injective}
use lib.ListN.{get_elem?}
use Rattle.nt_pool.specs.declared.work.Answer.{Answer}
use Rattle.nt_pool.specs.Rule.{weigh, IsOf}
use Rattle.nt_pool.specs.Done.{Pairs}
use Rattle.nt_pool.specs.Pool.{AreNumbered, AreDone, AreAll}
use Rattle.nt_pool.specs.Placing.{answers_of, Removes}
use Rattle.nt_pool.proofs.Working.{pairs-length}

-- 1 for the number that is looked for, else 0
abbrev test : ℕ → ℕ → ℕ
test i n = if n == i then 1 else 0

test_same : (i n : ℕ) → n ≡ i → test i n ≡ 1
test_same i n e = grind (arith, nat_tests, e)

test_else : (i n : ℕ) → n ≢ i → test i n ≡ 0
test_else i n e = grind (arith, nat_tests, e)

module _ {A : Type 0} where
  cut_at : (xs : List A) (p : ℕ) (a : A) → p < length xs → a ≡ slice_index_or xs p a → xs ≡ take p xs ++ a ∷ drop (suc p) xs
  cut_at [] p a h e = absurd (omega (arith, h))
  cut_at (x ∷ xs) zero a h e = ap (λ (y : A). y ∷ xs) (sym e)
  cut_at (x ∷ xs) (suc p) a h e = ap (λ (l : List A). x ∷ l) (cut_at xs p a (omega (arith, h)) e)

  at_end : (l : List A) (a b : A) (j : ℕ) → get_elem? (l ++ a ∷ []) j ≡ some b → (get_elem? l j ≡ some b) ⊎ ((j ≡ length l) × (a ≡ b))
  at_end [] a b zero e = inr (refl, some-injective a b e)
  at_end [] a b (suc j) e = absurd (some-ne-none b (sym e))
  at_end (x ∷ xs) a b zero e = inl e
  at_end (x ∷ xs) a b (suc j) e = ⊎_elim (λ h. inl h) (λ h. let n = h.0 in inr (omega (arith, n), h.1)) (at_end xs a b j e)

  is-there : (xs : List A) (i : ℕ) → i < length xs → (a : A) × (get_elem? xs i ≡ some a)
  is-there [] i h = absurd (omega (arith, h))
  is-there (x ∷ xs) zero h = (x, refl)
  is-there (x ∷ xs) (suc i) h = is-there xs i (omega (arith, h))

  all-front : (P : A → Type 0) (front back : List A) (a : A) → AllByRecursion P (front ++ a ∷ back) → P a × AllByRecursion P (front ++ back)
  all-front P [] back a all = all
  all-front P (x ∷ front) back a all = let rest = all-front P front back a all.1 in (rest.0, (all.0, rest.1))

  whole : (xs : List A) (n : ℕ) → length xs ≤ n → take n xs ≡ xs
  whole [] zero h = refl
  whole [] (suc n) h = refl
  whole (x ∷ xs) zero h = absurd (omega (arith, h))
  whole (x ∷ xs) (suc n) h = ap (λ (l : List A). x ∷ l) (whole xs n (omega (arith, h)))

  length-cut : (front back : List A) (a : A) → length (front ++ a ∷ back) ≡ length (front ++ back) + 1
  length-cut [] back a = omega arith
  length-cut (x ∷ front) back a = let e = length-cut front back a in omega (arith, e)

  length-snoc : (xs : List A) (a : A) → length (xs ++ a ∷ []) ≡ length xs + 1
  length-snoc [] a = refl
  length-snoc (x ∷ xs) a = let e = length-snoc xs a in omega (arith, e)

module _ {D : Type 0} where
  take_next : (i p : ℕ) (xs : List (Answer D)) (d : Answer D) → p < length xs
      → answers_of i (take (suc p) xs) ≡ answers_of i (take p xs) + test i (slice_index_or xs p d).number
  take_next i p [] d h = absurd (omega (arith, h))
  take_next i zero (x ∷ xs) d h = omega arith
  take_next i (suc p) (x ∷ xs) d h = let e = take_next i p xs d (omega (arith, h)) in omega (arith, e)

  pub skips : (i p : ℕ) (xs : List (Answer D)) (d : Answer D) → p < length xs → answers_of i (take p xs) ≡ 0
      → (slice_index_or xs p d).number ≢ i → answers_of i (take (p + 1) xs) ≡ 0
  skips i p xs d h none other =
      let next : suc p ≡ p + 1 = omega arith in
      let e = take_next i p xs d h in
      let t = test_else i (slice_index_or xs p d).number other in
      subst (λ n. answers_of i (take n xs) ≡ 0) next (omega (arith, e, t, none))

  pub found : (i p : ℕ) (xs : List (Answer D)) → length xs ≤ p → answers_of i (take p xs) ≡ 0 → 0 < answers_of i xs → ⊥
  found i p xs h none there = let e = ap (answers_of i) (whole xs p h) in omega (arith, e, none, there)

  -- what stands at a place is one answer
  pub same_at : (p : ℕ) (xs : List (Answer D)) (a b : Answer D) → p < length xs → a ≡ slice_index_or xs p a → b ≡ slice_index_or xs p b
      → a ≡ b
  same_at p [] a b h e f = absurd (omega (arith, h))
  same_at zero (x ∷ xs) a b h e f = e ∙ sym f
  same_at (suc p) (x ∷ xs) a b h e f = same_at p xs a b (omega (arith, h)) e f

  pub removes : (i p : ℕ) (xs rest : List (Answer D)) (a : Answer D) → p < length xs → a ≡ slice_index_or xs p a → rest ≡ remove xs p
      → a.number ≡ i → Removes i xs rest a.done
  removes i p xs rest a h is without numbered = record {
    front = take p xs;
    back = drop (suc p) xs;
    answer = a;
    was = cut_at xs p a h is;
    now = without;
    numbered = numbered;
    is = refl;
  }

  answers_of-cut : (i : ℕ) (front back : List (Answer D)) (a : Answer D)
      → answers_of i (front ++ a ∷ back) ≡ test i a.number + answers_of i (front ++ back)
  answers_of-cut i [] back a = refl
  answers_of-cut i (x ∷ front) back a = let e = answers_of-cut i front back a in omega (arith, e)

module _ {J D : Type 0} (does : J → D → Type 0) (number : J → ℕ) (jobs : List J) where
  -- an answer of one of the jobs
  abbrev Right : Answer D → Type 0
  Right a = (j : J) × (get_elem? jobs a.number ≡ some j) × does j a.done

  -- the answers of the first m jobs stand in order, and those of the others are left
  pub record Placed (m : ℕ) (left : List (Answer D)) (done : List D) : Type 0 where
    pub right : AllByRecursion Right left
    pub there : (i : ℕ) → m ≤ i → i < length jobs → 0 < answers_of i left
    pub count : length left + m ≡ length jobs
    pub so_far : length done ≡ m
    pub each : (i : ℕ) (j : J) (d : D) → get_elem? jobs i ≡ some j → get_elem? done i ≡ some d → does j d

  weigh-at : (f : J → ℕ) (js : List J) (i : ℕ) (j : J) → get_elem? js i ≡ some j → f j ≤ weigh f js
  weigh-at f [] i j e = absurd (some-ne-none j (sym e))
  weigh-at f (x ∷ js) zero j e = let s = ap f (some-injective x j e) in omega (arith, s)
  weigh-at f (x ∷ js) (suc i) j e = let h = weigh-at f js i j e in omega (arith, h)

  weigh-ones : (js : List J) → weigh (λ j. 1) js ≡ length js
  weigh-ones [] = refl
  weigh-ones (x ∷ js) = let e = weigh-ones js in omega (arith, e)

  counted : (i : ℕ) (js : List J) (answers : List (Answer D)) → Pairs number does js answers
      → answers_of i answers ≡ weigh (λ j. test i (number j)) js
  counted i [] [] p = refl
  counted i [] (a ∷ rest) p = absurd p
  counted i (j ∷ js) [] p = absurd p
  counted i (j ∷ js) (a ∷ rest) p = let e = counted i js rest p.2 in let s = ap (test i) p.0 in omega (arith, e, s)

  all-right : (js : List J) (answers : List (Answer D)) → AreNumbered number jobs → Pairs number does js answers
      → AllByRecursion (IsOf jobs) js → AllByRecursion Right answers
  all-right [] [] n p of = tt
  all-right [] (a ∷ rest) n p of = absurd p
  all-right (j ∷ js) [] n p of = absurd p
  all-right (j ∷ js) (a ∷ rest) n p of = (
    (j, subst (λ i. get_elem? jobs i ≡ some j) (sym (p.0 ∙ n of.0.0 j of.0.1)) of.0.1, p.1),
    all-right js rest n p.2 of.1,
  )

  pub placing-begins : (answers : List (Answer D)) → AreNumbered number jobs → AreAll does number jobs answers → Placed 0 answers []
  placing-begins answers n all = record {
    right = all-right all.taken answers n all.pairs all.of;
    there = λ i low high.
        let at = is-there jobs i high in
        let below = weigh-at (λ j. test i (number j)) jobs i at.0 at.1 in
        let one = test_same i (number at.0) (n i at.0 at.1) in
        let c = counted i all.taken answers all.pairs in
        let e = all.each (λ j. test i (number j)) in
        omega (arith, below, one, c, e);
    count =
        let l = pairs-length number does all.taken answers all.pairs in
        let e = all.each (λ j. 1) in
        let a = weigh-ones all.taken in
        let b = weigh-ones jobs in
        omega (arith, l, e, a, b);
    so_far = refl;
    each = λ i j d at e. absurd (some-ne-none d (sym e));
  }

  pub placing-goes-on : (m : ℕ) (left rest : List (Answer D)) (done : List D) (one : D) → m < length jobs → Placed m left done
      → Removes m left rest one → Placed (m + 1) rest (done ++ one ∷ [])
  placing-goes-on m left rest done one more p r =
      let was : AllByRecursion Right (r.front ++ r.answer ∷ r.back) = subst (λ l. AllByRecursion Right l) r.was p.right in
      let cut = all-front Right r.front r.back r.answer was in
      let now : rest ≡ r.front ++ r.back = r.now in
      let mine : does cut.0.0 one = subst (λ d. does cut.0.0 d) r.is cut.0.2 in
      let at : get_elem? jobs m ≡ some cut.0.0 = subst (λ i. get_elem? jobs i ≡ some cut.0.0) r.numbered cut.0.1 in
      record {
        right = subst (λ l. AllByRecursion Right l) (sym now) cut.1;
        there = λ i low high.
            let left-there = p.there i (omega (arith, low)) high in
            let a = ap (answers_of i) r.was ∙ answers_of-cut i r.front r.back r.answer in
            let b = ap (answers_of i) now in
            let t = test_else i r.answer.number (λ (e : r.answer.number ≡ i). let k = r.numbered in omega (arith, e, k, low)) in
            omega (arith, left-there, a, b, t);
        count = let c = p.count in let a = ap length r.was in let b = length-cut r.front r.back r.answer in let e = ap length now in omega
            (arith, c, a, b, e);
        so_far = let s = p.so_far in let l = length-snoc done one in omega (arith, s, l);
        each = λ i j d here e. ⊎_elim (λ h. p.each i j d here h)
            (λ h. subst (λ (x : J × D). does x.0 x.1)
            (λ k. (some-injective cut.0.0 j (sym at ∙ (ap (λ n. get_elem? jobs n) (sym (h.0 ∙ p.so_far)) ∙ here)) k, h.1 k)) mine)
            (at_end done one d i e);
      }

  pub placing-ends : (m : ℕ) (left : List (Answer D)) (done : List D) → length jobs ≤ m → Placed m left done → AreDone does jobs done
  placing-ends m left done all p = ((let c = p.count in let s = p.so_far in omega (arith, c, s, all)), p.each)

  -- there are as many answers as jobs
  pub all-count : (answers : List (Answer D)) → AreAll does number jobs answers → length answers ≡ length jobs
  all-count answers all =
      let l = pairs-length number does all.taken answers all.pairs in
      let e = all.each (λ j. 1) in
      let a = weigh-ones all.taken in
      let b = weigh-ones jobs in
      omega (arith, l, e, a, b)
