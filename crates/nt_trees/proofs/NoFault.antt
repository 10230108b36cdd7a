-- Columns in which nothing is wrong are sound.
use Rattle.std.proofs.Common.{◌≡◌, ℕ, zero, suc, ◌+◌, ◌<◌, ◌≤◌, ◌⊎◌, inl, inr, ◌==◌, nat_lt, nat_le, if◌then◌else◌, Bool, true, false, List}
use Rattle.std.proofs.Common.{length, take, Option, Some, None, refl, ap, sym, ◌∙◌, arith, rules}
use Rattle.std.proofs.lemmas.Bool.{leb-true, eqb-true, lt-ltb, le-ltb, and_parts, or_cases, cases_Bool, cases_eq, cases_lt, cond-true}
use Rattle.std.proofs.lemmas.Bool.{cond-false}
use Rattle.nt_column.specs.Elements.{Element}
use Rattle.nt_plans.specs.Plan.{PlanData, PlansData, bool, number, text, list, maybe, record_of, choice, no_plans, plan}
use Rattle.nt_trees.specs.Columns.{Cols, begin_at, number_at, tag_at, last_end, count_tag}
use Rattle.nt_trees.specs.Sound.{how_many_plans, Rises, TagsUpTo, IndicesCount, Sound, AllSound, EachSound, FewSteps}
use Rattle.nt_trees.specs.Faults.{Spot, Demand, free, rising, tagged, index_counts, is_met, or_last, first_failing, spot_in, column_fault}
use Rattle.nt_trees.specs.Faults.{lower, fault_in, fault_in_any, fault_under, stepping}

-- ---- the first number at which a test fails

last_passes : (o : Option ℕ) (b : Bool) (n : ℕ) → or_last o b n ≡ None → (o ≡ None) × (b ≡ true)
last_passes None true n e = (refl, refl)
last_passes None false n e = search (rules, e)
last_passes (Some i) b n e = search (rules, e)

pub first_failing-none : (f : ℕ → Bool) (n : ℕ) → ((i : ℕ) → i < n → f i ≡ true) → first_failing f n ≡ None
first_failing-none f zero h = refl
first_failing-none f (suc n) h =
    ap (λ o. or_last o (f n) n) (first_failing-none f n (λ i l. h i (omega (arith, l)))) ∙ ap (λ b. or_last None b n) (h n (omega arith))

pub passes-none : (f : ℕ → Bool) (n : ℕ) → first_failing f n ≡ None → (i : ℕ) → i < n → f i ≡ true
passes-none f zero e i l = absurd (omega (arith, l))
passes-none f (suc n) e i l =
    let both = last_passes (first_failing f n) (f n) n e in
    go both.1 (λ b. passes-none f n both.0 i b) (cases_eq i n)
  where
    go : f n ≡ true → (i < n → f i ≡ true) → (i ≡ n) ⊎ (i ≡ n → ⊥) → f i ≡ true
    go last before (inl is) = ap f is ∙ last
    go last before (inr apart) = before (omega (arith, l, apart))

pub first_failing-at : (f : ℕ → Bool) (n x : ℕ) → x < n → ((i : ℕ) → i < x → f i ≡ true) → f x ≡ false → first_failing f n ≡ Some x
first_failing-at f zero x l h off = absurd (omega (arith, l))
first_failing-at f (suc n) x l h off = go (λ b. first_failing-at f n x b h off) (cases_eq x n)
  where
    go : (x < n → first_failing f n ≡ Some x) → (x ≡ n) ⊎ (x ≡ n → ⊥) → first_failing f (suc n) ≡ Some x
    go before (inl is) =
        ap (λ o. or_last o (f n) n) (first_failing-none f n (λ i b. h i (omega (arith, b, is))))
        ∙ ap (λ b. or_last None b n) (ap f (sym is) ∙ off) ∙ ap (λ (k : ℕ). Some k) (sym is)
    go before (inr apart) = ap (λ o. or_last o (f n) n) (before (omega (arith, l, apart)))

-- ---- of two faults the lower

pub lower-none : (f : Option Spot) → lower f None ≡ f
lower-none None = refl
lower-none (Some f) = refl

pub none-lower : (f g : Option Spot) → lower f g ≡ None → (f ≡ None) × (g ≡ None)
none-lower None g e = (refl, e)
none-lower (Some f) None e = search (rules, e)
none-lower (Some f) (Some g) e = go (nat_lt g.0 f.0) e
  where
    go : (b : Bool) → (if b then Some g else Some f) ≡ None → (Some f ≡ None) × (Some g ≡ None)
    go true h = search (rules, h)
    go false h = search (rules, h)

pub lower-lower : (f g h : Option Spot) → lower (lower f g) h ≡ lower f (lower g h)
lower-lower None g h = refl
lower-lower (Some f) None h = refl
lower-lower (Some f) (Some g) None = lower-none (lower (Some f) (Some g))
lower-lower (Some f) (Some g) (Some h) = go (cases_lt g.0 f.0) (cases_lt h.0 g.0) (cases_lt h.0 f.0)
  where
    first : (a b : Spot) → a.0 < b.0 → lower (Some b) (Some a) ≡ Some a
    first a b l = cond-true (nat_lt a.0 b.0) (Some a) (Some b) (lt-ltb a.0 b.0 l)

    second : (a b : Spot) → b.0 ≤ a.0 → lower (Some b) (Some a) ≡ Some b
    second a b l = cond-false (nat_lt a.0 b.0) (Some a) (Some b) (le-ltb a.0 b.0 l)

    go : (g.0 < f.0) ⊎ (f.0 ≤ g.0) → (h.0 < g.0) ⊎ (g.0 ≤ h.0) → (h.0 < f.0) ⊎ (f.0 ≤ h.0)
        → lower (lower (Some f) (Some g)) (Some h) ≡ lower (Some f) (lower (Some g) (Some h))
    go (inl a) (inl b) c =
        ap (λ o. lower o (Some h)) (first g f a) ∙ first h g b
        ∙ sym (first h f (omega (arith, a, b))) ∙ sym (ap (lower (Some f)) (first h g b))
    go (inl a) (inr b) c =
        ap (λ o. lower o (Some h)) (first g f a) ∙ second h g b ∙ sym (first g f a) ∙ sym (ap (lower (Some f)) (second h g b))
    go (inr a) (inl b) c = ap (λ o. lower o (Some h)) (second g f a) ∙ sym (ap (lower (Some f)) (first h g b))
    go (inr a) (inr b) (inl c) = absurd (omega (arith, a, b, c))
    go (inr a) (inr b) (inr c) =
        ap (λ o. lower o (Some h)) (second g f a) ∙ second h f c ∙ sym (second g f a) ∙ sym (ap (lower (Some f)) (second h g b))

-- ---- columns in which nothing is wrong

some-none : (s : Spot) → Some s ≡ None → ⊥
some-none s e = search (rules, e)

column-none : (d : Demand) (cols : Cols) (k n : ℕ) → column_fault d cols k n ≡ None
    → (length (cols k) ≡ n) × ((i : ℕ) → i < length (cols k) → is_met d (cols k) i ≡ true)
column-none d cols k n e = go (cases_Bool (length (cols k) == n))
  where
    inside : (o : Option ℕ) → spot_in k o ≡ None → o ≡ None
    inside None h = refl
    inside (Some i) h = search (rules, h)

    go : ((length (cols k) == n) ≡ true) ⊎ ((length (cols k) == n) ≡ false)
        → (length (cols k) ≡ n) × ((i : ℕ) → i < length (cols k) → is_met d (cols k) i ≡ true)
    go (inl same) = (
      eqb-true (length (cols k)) n same,
      passes-none (is_met d (cols k)) (length (cols k)) (inside (first_failing (is_met d (cols k)) (length (cols k)))
          (sym (cond-true (length (cols k) == n) (spot_in k (first_failing (is_met d (cols k)) (length (cols k))))
          (Some (k, length (cols k))) same) ∙ e)),
    )
    go (inr other) =
        absurd (some-none (k, length (cols k)) (sym (cond-false (length (cols k) == n)
        (spot_in k (first_failing (is_met d (cols k)) (length (cols k)))) (Some (k, length (cols k))) other) ∙ e))

rises-none : (cols : Cols) (k n : ℕ) → column_fault rising cols k n ≡ None → (length (cols k) ≡ n) × Rises (cols k)
rises-none cols k n e =
    let c = column-none rising cols k n e in
    (c.0, λ i l. leb-true (begin_at (cols k) i) (begin_at (cols k) (suc i)) (c.1 i l))

steps-none : (cols : Cols) (k n : ℕ) → column_fault stepping cols k n ≡ None
    → (length (cols k) ≡ n) × Rises (cols k) × FewSteps (cols k)
steps-none cols k n e =
    let c = column-none stepping cols k n e in (
      c.0,
      λ i l. leb-true (begin_at (cols k) i) (begin_at (cols k) (suc i)) (and_parts _ _ (c.1 i l)).0,
      λ i l. leb-true (begin_at (cols k) (suc i)) (begin_at (cols k) i + 1) (and_parts _ _ (c.1 i l)).1,
    )

counts-none : (cols : Cols) (most k n : ℕ) → column_fault (tagged most) cols k n ≡ None
    → (length (cols k) ≡ n) × TagsUpTo most (cols k) × IndicesCount (cols k)
counts-none cols most k n e =
    let c = column-none (tagged most) cols k n e in (
      c.0,
      λ i l. leb-true (tag_at (cols k) i) most (and_parts (nat_le (tag_at (cols k) i) most) (index_counts (cols k) i) (c.1 i l)).0,
      λ i l some. index i some (or_cases (tag_at (cols k) i == 0) _
          (and_parts (nat_le (tag_at (cols k) i) most) (index_counts (cols k) i) (c.1 i l)).1),
    )
  where
    index : (i : ℕ) → 0 < tag_at (cols k) i
        → ((tag_at (cols k) i == 0) ≡ true) ⊎ ((number_at (cols k) i == count_tag (tag_at (cols k) i) (take i (cols k))) ≡ true)
        → number_at (cols k) i ≡ count_tag (tag_at (cols k) i) (take i (cols k))
    index i some (inl is) = absurd (omega (arith, some, eqb-true (tag_at (cols k) i) 0 is))
    index i some (inr is) = eqb-true (number_at (cols k) i) (count_tag (tag_at (cols k) i) (take i (cols k))) is

mutual
  pub Sound-no_fault : (p : PlanData) (cols : Cols) (n : ℕ) → fault_in p cols n ≡ None → Sound p cols n
  Sound-no_fault (bool k) cols n e = (column-none free cols k n e).0
  Sound-no_fault (number k bits signed) cols n e = (column-none free cols k n e).0
  Sound-no_fault (text ends bytes) cols n e =
      let both = none-lower (column_fault rising cols ends n) (column_fault free cols bytes (last_end (cols ends))) e in
      let c = rises-none cols ends n both.0 in
      (c.0, c.1, (column-none free cols bytes (last_end (cols ends)) both.1).0)
  Sound-no_fault (list ends p) cols n e =
      let both = none-lower (column_fault rising cols ends n) (fault_in p cols (last_end (cols ends))) e in
      let c = rises-none cols ends n both.0 in
      (c.0, c.1, Sound-no_fault p cols (last_end (cols ends)) both.1)
  Sound-no_fault (maybe ends p) cols n e =
      let both = none-lower (column_fault stepping cols ends n) (fault_in p cols (last_end (cols ends))) e in
      let c = steps-none cols ends n both.0 in
      (c.0, c.1, c.2, Sound-no_fault p cols (last_end (cols ends)) both.1)
  Sound-no_fault (record_of ps) cols n e = AllSound-no_fault ps cols n e
  Sound-no_fault (choice tags ps) cols n e =
      let both = none-lower (column_fault (tagged (how_many_plans ps)) cols tags n) (fault_under 0 ps (cols tags) cols) e in
      let c = counts-none cols (how_many_plans ps) tags n both.0 in
      (c.0, c.1, c.2, EachSound-no_fault 0 ps (cols tags) cols both.1)

  pub AllSound-no_fault : (ps : PlansData) (cols : Cols) (n : ℕ) → fault_in_any ps cols n ≡ None → AllSound ps cols n
  AllSound-no_fault no_plans cols n e = tt
  AllSound-no_fault (plan p ps) cols n e =
      let both = none-lower (fault_in p cols n) (fault_in_any ps cols n) e in
      (Sound-no_fault p cols n both.0, AllSound-no_fault ps cols n both.1)

  EachSound-no_fault : (before : ℕ) (ps : PlansData) (es : List Element) (cols : Cols)
      → fault_under before ps es cols ≡ None → EachSound before ps es cols
  EachSound-no_fault before no_plans es cols e = tt
  EachSound-no_fault before (plan p ps) es cols e =
      let both = none-lower (fault_in p cols (count_tag (suc before) es)) (fault_under (suc before) ps es cols) e in
      (Sound-no_fault p cols (count_tag (suc before) es) both.0, EachSound-no_fault (suc before) ps es cols both.1)
