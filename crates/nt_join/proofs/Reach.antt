-- What can be read below an element that can.
use Rattle.std.proofs.Common.{◌≡◌, ℕ, zero, suc, ◌+◌, ◌-◌, ◌<◌, ◌≤◌, List, [], ◌∷◌, length, map, get_or, refl, sym, ap, ◌∙◌, subst, arith}
use Rattle.nt_types.specs.TreeData.{TreeData, pick}
use Rattle.nt_column.specs.Elements.{Element}
use Rattle.nt_plans.specs.Plan.{PlanData, PlansData, text, list, maybe, choice, no_plans, plan, plans_of}
use Rattle.nt_plans.specs.PlanViews.{plan_view}
use Rattle.nt_plans.specs.declared.plan.Plan.{Plan}
use Rattle.nt_trees.specs.Columns.{Cols, number_at, tag_at, begin_at, last_end, count_tag}
use Rattle.nt_trees.specs.TreeAt.{picked, tree_at, one_at}
use Rattle.nt_trees.specs.Sound.{Sound, EachSound}
use Rattle.nt_trees.proofs.Lists.{begin_at-le-last, index-within}
use Rattle.nt_join.specs.Readable.{Readable, ReadableTo}
use Rattle.nt_join.proofs.Blocks.{how_many-plans_of}

-- the plan of a tag, from 1
abbrev pub IsOfTag : PlansData → ℕ → PlanData → Type 0
IsOfTag no_plans t p = ⊥
IsOfTag (plan q qs) zero p = ⊥
IsOfTag (plan q qs) (suc zero) p = q ≡ p
IsOfTag (plan q qs) (suc (suc n)) p = IsOfTag qs (suc n) p

of_tag-next : (l : List Plan) (t : ℕ) (x : Plan) → t < length l → x ≡ get_or l t x
    → IsOfTag (plans_of (map plan_view l)) (suc t) (plan_view x)
of_tag-next [] t x h is = absurd (omega arith)
of_tag-next (y ∷ l) zero x h is = ap plan_view (sym is)
of_tag-next (y ∷ l) (suc t) x h is = of_tag-next l t x (omega arith) is

pub of_tag-at : (l : List Plan) (t : ℕ) (x : Plan) → 0 < t → t ≤ length l → x ≡ get_or l (t - 1) x
    → IsOfTag (plans_of (map plan_view l)) t (plan_view x)
of_tag-at l t x some among is =
    let same : suc (t - 1) ≡ t = omega arith in
    subst (λ n. IsOfTag (plans_of (map plan_view l)) n (plan_view x)) same (of_tag-next l (t - 1) x (omega arith) is)

one_at-tag : (ps : PlansData) (t : ℕ) (p : PlanData) (cols : Cols) (i : ℕ) → IsOfTag ps t p → one_at ps t cols i ≡ tree_at p cols i
one_at-tag no_plans t p cols i n = absurd n
one_at-tag (plan q qs) zero p cols i n = absurd n
one_at-tag (plan q qs) (suc zero) p cols i n = ap (λ x. tree_at x cols i) n
one_at-tag (plan q qs) (suc (suc t)) p cols i n = one_at-tag qs (suc t) p cols i n

sound-tag : (ps : PlansData) (before t whole : ℕ) (p : PlanData) (es : List Element) (cols : Cols) → whole ≡ before + t → IsOfTag ps t p
    → EachSound before ps es cols → Sound p cols (count_tag whole es)
sound-tag no_plans before t whole p es cols is n h = absurd n
sound-tag (plan q qs) before zero whole p es cols is n h = absurd n
sound-tag (plan q qs) before (suc zero) whole p es cols is n h =
    let same : suc before ≡ whole = omega arith in
    subst (λ w. Sound p cols (count_tag w es)) same (subst (λ x. Sound x cols (count_tag (suc before) es)) n h.0)
sound-tag (plan q qs) before (suc (suc t)) whole p es cols is n h = sound-tag qs (suc before) (suc t) whole p es cols (omega arith) n h.1

pub readable-is : (p q : PlanData) (cols : Cols) (i : ℕ) → p ≡ q → Readable p cols i → Readable q cols i
readable-is p q cols i e r = subst (λ x. Readable x cols i) e r

-- a text lies within its bytes
pub text-within : (e c : ℕ) (cols : Cols) (i : ℕ) → Readable (text e c) cols i → begin_at (cols e) (suc i) ≤ length (cols c)
text-within e c cols i r =
    let s = r.sound in
    let within : suc i ≤ length (cols e) = omega (arith, r.within, s.0) in
    omega (arith, s.2, begin_at-le-last (cols e) s.1 (suc i) within)

-- the items of a list can be read
pub items-readable : (e : ℕ) (p : PlanData) (cols : Cols) (i : ℕ) → Readable (list e p) cols i
    → ReadableTo p cols (begin_at (cols e) (suc i)) × (begin_at (cols e) i ≤ begin_at (cols e) (suc i))
items-readable e p cols i r =
    let s = r.sound in
    let within : i < length (cols e) = omega (arith, r.within, s.0) in (
      record { size = last_end (cols e); sound = s.2; within = begin_at-le-last (cols e) s.1 (suc i) within },
      s.1 i within,
    )

-- the item of an optional can be read
pub optional-readable : (e : ℕ) (p : PlanData) (cols : Cols) (i : ℕ) → Readable (maybe e p) cols i
    → ReadableTo p cols (begin_at (cols e) (suc i)) × (begin_at (cols e) i ≤ begin_at (cols e) (suc i))
optional-readable e p cols i r =
    let s = r.sound in
    let within : i < length (cols e) = omega (arith, r.within, s.0) in (
      record { size = last_end (cols e); sound = s.3; within = begin_at-le-last (cols e) s.1 (suc i) within },
      s.1 i within,
    )

-- a tag is one of an alternative
pub tag-among : (s : ℕ) (ps : List PlanData) (cols : Cols) (i : ℕ) → Readable (choice s (plans_of ps)) cols i
    → tag_at (cols s) i ≤ length ps
tag-among s ps cols i r =
    let within : i < length (cols s) = omega (arith, r.within, r.sound.0) in
    omega (arith, r.sound.1 i within, how_many-plans_of ps)

-- the value of a choice can be read
pub picked-readable : (s : ℕ) (ps : PlansData) (t : ℕ) (p : PlanData) (cols : Cols) (i : ℕ) → IsOfTag ps t p → tag_at (cols s) i ≡ t → 0 < t
    → Readable (choice s ps) cols i → Readable p cols (number_at (cols s) i)
picked-readable s ps t p cols i n is some r =
    let within : i < length (cols s) = omega (arith, r.within, r.sound.0) in
    let low = index-within (cols s) r.sound.2 i within (omega (arith, is, some)) in
    record {
      size = count_tag t (cols s);
      sound = sound-tag ps 0 t t p (cols s) cols (omega arith) n r.sound.3;
      within = subst (λ u. number_at (cols s) i < count_tag u (cols s)) is low;
    }

picked-some : (t : ℕ) (f : ℕ → TreeData) → 0 < t → picked t f ≡ pick t (f t)
picked-some zero f h = absurd (omega arith)
picked-some (suc t) f h = refl

-- the tree of a choice is that of its alternative
pub tree_at-picked : (s : ℕ) (ps : PlansData) (t : ℕ) (p : PlanData) (cols : Cols) (i : ℕ) → IsOfTag ps t p → tag_at (cols s) i ≡ t → 0 < t
    → tree_at (choice s ps) cols i ≡ pick t (tree_at p cols (number_at (cols s) i))
tree_at-picked s ps t p cols i n is some =
    let f = λ (u : ℕ). one_at ps u cols (number_at (cols s) i) in
    ap (λ u. picked u f) is ∙ picked-some t f some ∙ ap (pick t) (one_at-tag ps t p cols (number_at (cols s) i) n)
