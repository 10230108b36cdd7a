-- The trees of sound columns fit their plans.
use Rattle.std.proofs.Common.{◌≡◌, ℕ, zero, suc, ◌+◌, ◌-◌, ◌<◌, ◌≤◌, ◌^◌, Bool, true, false, cond, ◌||◌, pos, negsuc, List, length}
use Rattle.std.proofs.Common.{refl, sym, ap, subst, arith, inl, inr}
use Rattle.std.specs.Prelude.{nat_lt}
use Rattle.std.proofs.lemmas.Bool.{cases_lt}
use Rattle.std.proofs.lemmas.List.{get_or_past}
use Rattle.nt_lists.proofs.Bools.{both_true}
use Rattle.nt_types.specs.TreeData.{TreeData, is_nothing}
use Rattle.nt_types.specs.Fits.{is_int, all_trees}
use Rattle.nt_types.specs.Spelling.{is_width}
use Rattle.nt_column.specs.Elements.{Element}
use Rattle.nt_grammar.specs.declared.rows.ColumnRow.{ColumnRow}
use Rattle.nt_plans.specs.Plan.{PlanData, PlansData, bool, number, text, list, maybe, record_of, choice, no_plans, plan}
use Rattle.nt_plans.specs.Types.{HasTypes, AllHaveTypes}
use Rattle.nt_trees.specs.Columns.{Cols, number_at, tag_at, last_end, count_tag}
use Rattle.nt_trees.specs.Sound.{how_many_plans, Sound, AllSound, EachSound}
use Rattle.nt_trees.specs.Integers.{half, integer_of}
use Rattle.nt_trees.specs.TreeAt.{trees_from, only, picked, tree_at, each_at, one_at}
use Rattle.nt_trees.specs.Fits.{fits_plan, fit_plans, fits_alternative}
use Rattle.nt_fitting.specs.Fitting.{CanFit, AllCanFit, AreOfRows}

-- ---- numbers

below : (a b : ℕ) → a < b → nat_lt a b ≡ true
below a b h = grind (arith, h)

half-is : (b : ℕ) → half (suc b) ≡ 2 ^ b
half-is b = let less : suc b - 1 ≡ b = omega arith in ap (λ (n : ℕ). 2 ^ n) less

doubled : (b : ℕ) → 2 ^ suc b ≡ half (suc b) + half (suc b)
doubled b = omega (arith, half-is b)

positive : (b : ℕ) → 0 < 2 ^ b
positive zero = omega arith
positive (suc b) = omega (arith, positive b)

signed_fits : (b n : ℕ) → n < 2 ^ suc b → is_int (suc b) true (integer_of (suc b) true n) ≡ true
signed_fits b n less = by (nat_lt n (half (suc b))) refl
  where
    by : (t : Bool) → nat_lt n (half (suc b)) ≡ t
        → is_int (suc b) true (cond t (pos n) (negsuc ((half (suc b) + half (suc b)) - suc n))) ≡ true
    by true e = e
    by false e =
        let high : half (suc b) ≤ n = grind (arith, e) in
        below ((half (suc b) + half (suc b)) - suc n) (half (suc b)) (omega (arith, high, less, doubled b))

number_fits : (bits : ℕ) (signed : Bool) (n : ℕ) → 0 < bits → n < 2 ^ bits → is_int bits signed (integer_of bits signed n) ≡ true
number_fits bits false n some less = below n (2 ^ bits) less
number_fits zero true n some less = absurd (omega (arith, some))
number_fits (suc b) true n some less = signed_fits b n less

-- ---- trees

all-from : (f : TreeData → Bool) (g : ℕ → TreeData) → ((i : ℕ) → f (g i) ≡ true) → (at n : ℕ) → all_trees f (trees_from g at n) ≡ true
all-from f g h at zero = refl
all-from f g h at (suc n) = both_true (f (g at)) (all_trees f (trees_from g (suc at) n)) (h at) (all-from f g h (suc at) n)

or-last : (a b : Bool) → b ≡ true → (a || b) ≡ true
or-last true b e = refl
or-last false b e = e

only-fits : (f : TreeData → Bool) (g : ℕ → TreeData) → ((i : ℕ) → f (g i) ≡ true) → (at n : ℕ)
    → (is_nothing (only (trees_from g at n)) || f (only (trees_from g at n))) ≡ true
only-fits f g h at zero = refl
only-fits f g h at (suc n) = or-last (is_nothing (g at)) (f (g at)) (h at)

picked-fits : (ps : PlansData) (cols : Cols) (j : ℕ)
    → ((n : ℕ) → suc n ≤ how_many_plans ps → fits_alternative ps (suc n) (one_at ps (suc n) cols j) ≡ true)
    → (tag : ℕ) → tag ≤ how_many_plans ps → fits_plan (choice 0 ps) (picked tag (λ t. one_at ps t cols j)) ≡ true
picked-fits ps cols j each zero low = refl
picked-fits ps cols j each (suc n) low = each n low

mutual
  pub tree_fits : (p : PlanData) (cols : Cols) → CanFit p cols → (i : ℕ) → fits_plan p (tree_at p cols i) ≡ true
  tree_fits (bool k) cols can i = refl
  tree_fits (number k bits signed) cols can i = number_fits bits signed (number_at (cols k) i) can.0 (can.1 i)
  tree_fits (text e c) cols can i = refl
  tree_fits (list e p) cols can i = all-from (fits_plan p) (tree_at p cols) (λ j. tree_fits p cols can j) _ _
  tree_fits (maybe e p) cols can i = only-fits (fits_plan p) (tree_at p cols) (λ j. tree_fits p cols can j) _ _
  tree_fits (record_of ps) cols can i = trees_fit ps cols can i
  tree_fits (choice s ps) cols can i =
      picked-fits ps cols (number_at (cols s) i) (λ n low. one_fits ps cols can.1 n (number_at (cols s) i) low) (tag_at (cols s) i)
      (can.0 i)

  pub trees_fit : (ps : PlansData) (cols : Cols) → AllCanFit ps cols → (i : ℕ) → fit_plans ps (each_at ps cols i) ≡ true
  trees_fit no_plans cols can i = refl
  trees_fit (plan p ps) cols can i =
      both_true (fits_plan p (tree_at p cols i)) (fit_plans ps (each_at ps cols i)) (tree_fits p cols can.0 i) (trees_fit ps cols can.1 i)

  one_fits : (ps : PlansData) (cols : Cols) → AllCanFit ps cols → (n j : ℕ) → suc n ≤ how_many_plans ps
      → fits_alternative ps (suc n) (one_at ps (suc n) cols j) ≡ true
  one_fits no_plans cols can n j low = absurd (omega (arith, low))
  one_fits (plan p ps) cols can zero j low = tree_fits p cols can.0 j
  one_fits (plan p ps) cols can (suc n) j low = one_fits ps cols can.1 n j (omega (arith, low))

-- ---- columns of the types of their rows

wide : (bits : ℕ) → is_width bits ≡ true → 0 < bits
wide zero e = absurd cc
wide (suc b) e = omega arith

module _ (cs : List ColumnRow) (cols : Cols) (are : AreOfRows cs cols) where
  mutual
    pub can_fit : (p : PlanData) (n : ℕ) → HasTypes cs p → Sound p cols n → CanFit p cols
    can_fit (bool k) n has sound = tt
    can_fit (number k bits signed) n has sound = (wide bits has.is_width, λ i. each i)
      where
        each : (i : ℕ) → number_at (cols k) i < 2 ^ bits
        each i =
            elim (cases_lt i (length (cols k))) [
              | inl inside ↦
                  subst (λ (b : ℕ). number_at (cols k) i < 2 ^ b) has.width
                  (are k has.type_is.row has.of has.type_is.is_there has.type_is.code i (0, 0) inside).number
              | inr past ↦
                  let none : number_at (cols k) i ≡ 0 = ap (λ (e : Element). e.0) (get_or_past (cols k) i (0, 0) past) in
                  subst (λ (m : ℕ). m < 2 ^ bits) (sym none) (positive bits)
            ]
    can_fit (text e c) n has sound = tt
    can_fit (list e p) n has sound = can_fit p (last_end (cols e)) has.1 sound.2
    can_fit (maybe e p) n has sound = can_fit p (last_end (cols e)) has.1 sound.3
    can_fit (record_of ps) n has sound = all_can_fit ps n has.1 sound
    can_fit (choice s ps) n has sound = (λ i. tags i, each_can_fit 0 ps (cols s) has.2 sound.3)
      where
        tags : (i : ℕ) → tag_at (cols s) i ≤ how_many_plans ps
        tags i =
            elim (cases_lt i (length (cols s))) [
              | inl inside ↦ sound.1 i inside
              | inr past ↦
                  let none : tag_at (cols s) i ≡ 0 = ap (λ (e : Element). e.1) (get_or_past (cols s) i (0, 0) past) in
                  omega (arith, none)
            ]

    pub all_can_fit : (ps : PlansData) (n : ℕ) → AllHaveTypes cs ps → AllSound ps cols n → AllCanFit ps cols
    all_can_fit no_plans n has sound = tt
    all_can_fit (plan p ps) n has sound = (can_fit p n has.0 sound.0, all_can_fit ps n has.1 sound.1)

    each_can_fit : (before : ℕ) (ps : PlansData) (es : List Element) → AllHaveTypes cs ps → EachSound before ps es cols → AllCanFit ps cols
    each_can_fit before no_plans es has sound = tt
    each_can_fit before (plan p ps) es has sound =
        (can_fit p (count_tag (suc before) es) has.0 sound.0, each_can_fit (suc before) ps es has.1 sound.1)
