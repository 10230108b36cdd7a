-- What an entry adds has index 0 under tag 0.
use Rattle.std.proofs.Common.{◌≡◌, ℕ, zero, suc, ◌+◌, ◌<◌, ◌==◌, ◌||◌, List, [], ◌∷◌, ◌++◌, Bool, true, false, cond, refl, sym, ap, ◌∙◌}
use Rattle.std.proofs.Common.{arith, subst}
use Rattle.std.proofs.lemmas.Bool.{and_parts, false≢true}
use Rattle.nt_types.specs.TreeData.{TreeData, TreesData, items, parts, pick, nothing, no_trees, tree, is_nothing}
use Rattle.nt_types.specs.Fits.{all_trees}
use Rattle.nt_column.specs.Elements.{Element, plain}
use Rattle.nt_plans.specs.Plan.{PlanData, PlansData, bool, number, text, list, maybe, record_of, choice, no_plans, plan, has, has_any}
use Rattle.nt_plans.specs.Plan.{Differ, AllDiffer}
use Rattle.nt_trees.specs.Columns.{Cols, number_at, tag_at, last_end, count_tag, add_to}
use Rattle.nt_trees.specs.Put.{how_many_trees, put_each, put_maybe, put_tree, put_trees, put_one}
use Rattle.nt_trees.specs.Fits.{fits_plan, fit_plans, fits_alternative}
use Rattle.nt_trees.specs.Nones.{NonesAreZero, HasZeroNones, HaveZeroNones}
use Rattle.nt_trees.proofs.Lists.{number_at-more, tag_at-more, new_number, new_tag, all-more}
use Rattle.nt_trees.proofs.Elsewhere.{add_to-elsewhere, add_to-here, put_tree-elsewhere, put_trees-elsewhere, put_one-elsewhere, apart}
use Rattle.nt_trees.proofs.Elsewhere.{other_side, Agree, or_left, or_right, same_key}

nones-more : (es : List Element) (x t : ℕ) → NonesAreZero es → (t ≡ 0 → x ≡ 0) → NonesAreZero (es ++ (x, t) ∷ [])
nones-more es x t z is = all-more es x t (λ i. tag_at (es ++ (x, t) ∷ []) i ≡ 0 → number_at (es ++ (x, t) ∷ []) i ≡ 0)
    (λ i h none. number_at-more es ((x, t) ∷ []) i h ∙ z i h (sym (tag_at-more es ((x, t) ∷ []) i h) ∙ none))
    (λ none. new_number es x t ∙ is (sym (new_tag es x t) ∙ none))

-- ---- it rests on the columns that are named

mutual
  pub nones-agree : (p : PlanData) (old new : Cols) → Agree (has p) old new → HasZeroNones p old → HasZeroNones p new
  nones-agree (bool k) old new a z = tt
  nones-agree (number k bits signed) old new a z = tt
  nones-agree (text e c) old new a z = tt
  nones-agree (list e p) old new a z = nones-agree p old new (λ j h. a j (or_right (j == e) (has p j) h)) z
  nones-agree (maybe e p) old new a z = nones-agree p old new (λ j h. a j (or_right (j == e) (has p j) h)) z
  nones-agree (record_of ps) old new a z = all_nones-agree ps old new a z
  nones-agree (choice s ps) old new a z = (
    subst NonesAreZero (sym (a s (or_left (s == s) (has_any ps s) (same_key s)))) z.0,
    all_nones-agree ps old new (λ j h. a j (or_right (j == s) (has_any ps j) h)) z.1,
  )

  pub all_nones-agree : (ps : PlansData) (old new : Cols) → Agree (has_any ps) old new → HaveZeroNones ps old → HaveZeroNones ps new
  all_nones-agree no_plans old new a z = tt
  all_nones-agree (plan p ps) old new a z = (
    nones-agree p old new (λ j h. a j (or_left (has p j) (has_any ps j) h)) z.0,
    all_nones-agree ps old new (λ j h. a j (or_right (has p j) (has_any ps j) h)) z.1,
  )

-- ---- what is added elsewhere

beside : (p : PlanData) (k : ℕ) (es : List Element) (cols : Cols) → has p k ≡ false → HasZeroNones p cols
    → HasZeroNones p (add_to k es cols)
beside p k es cols fresh z =
    nones-agree p cols (add_to k es cols) (λ j i. add_to-elsewhere k es cols j (apart (has p) k j fresh i)) z

all_beside : (ps : PlansData) (k : ℕ) (es : List Element) (cols : Cols) → has_any ps k ≡ false → HaveZeroNones ps cols
    → HaveZeroNones ps (add_to k es cols)
all_beside ps k es cols fresh z =
    all_nones-agree ps cols (add_to k es cols) (λ j i. add_to-elsewhere k es cols j (apart (has_any ps) k j fresh i)) z

-- ---- what a tree adds

each-nones : (p : PlanData)
    → ((t : TreeData) (cols : Cols) → HasZeroNones p cols → fits_plan p t ≡ true → HasZeroNones p (put_tree p t cols))
    → (ts : TreesData) (cols : Cols) → HasZeroNones p cols → all_trees (fits_plan p) ts ≡ true
    → HasZeroNones p (put_each (put_tree p) ts cols)
each-nones p each no_trees cols z h = z
each-nones p each (tree t ts) cols z h =
    let q = and_parts (fits_plan p t) (all_trees (fits_plan p) ts) h in
    each-nones p each ts (put_tree p t cols) (each t cols z q.0) q.1

maybe-nones : (e : ℕ) (p : PlanData) (t : TreeData) (cols : Cols) → has p e ≡ false → HasZeroNones p cols
    → (fits_plan p t ≡ true → HasZeroNones p (put_tree p t cols)) → (is_nothing t || fits_plan p t) ≡ true
    → HasZeroNones p (put_maybe e (put_tree p) t cols)
maybe-nones e p t cols fresh z inner h = by (is_nothing t) h
  where
    by : (b : Bool) → (b || fits_plan p t) ≡ true → HasZeroNones p
        (cond b (add_to e (plain (last_end (cols e)) ∷ []) cols) (add_to e (plain (last_end (cols e) + 1) ∷ []) (put_tree p t cols)))
    by true g = beside p e (plain (last_end (cols e)) ∷ []) cols fresh z
    by false g = beside p e (plain (last_end (cols e) + 1) ∷ []) (put_tree p t cols) fresh (inner g)

tag_some : (ps : PlansData) (tag : ℕ) (t : TreeData) → fits_alternative ps tag t ≡ true → 0 < tag
tag_some no_plans tag t h = absurd (false≢true h)
tag_some (plan p ps) zero t h = absurd (false≢true h)
tag_some (plan p ps) (suc n) t h = omega arith

mutual
  pub tree-nones : (p : PlanData) (t : TreeData) (cols : Cols) → Differ p → HasZeroNones p cols → fits_plan p t ≡ true
      → HasZeroNones p (put_tree p t cols)
  tree-nones (bool k) t cols d z h = tt
  tree-nones (number k bits signed) t cols d z h = tt
  tree-nones (text e c) t cols d z h = tt
  tree-nones (list e p) (items ts) cols d z h =
      beside p e (plain (last_end (cols e) + how_many_trees ts) ∷ []) (put_each (put_tree p) ts cols) d.0
      (each-nones p (λ t cs y g. tree-nones p t cs d.1 y g) ts cols z h)
  tree-nones (maybe e p) t cols d z h = maybe-nones e p t cols d.0 z (λ g. tree-nones p t cols d.1 z g) h
  tree-nones (record_of ps) (parts ts) cols d z h = trees-nones ps ts cols d z h
  tree-nones (choice s ps) nothing cols d z h = (
    subst NonesAreZero (sym (add_to-here s ((0, 0) ∷ []) cols)) (nones-more (cols s) 0 0 z.0 (λ e. refl)),
    all_beside ps s ((0, 0) ∷ []) cols d.0 z.1,
  )
  tree-nones (choice s ps) (pick tag t) cols d z h =
      let x = count_tag tag (cols s) in
      let is : add_to s ((x, tag) ∷ []) (put_one ps tag t cols) s ≡ cols s ++ (x, tag) ∷ [] =
      add_to-here s ((x, tag) ∷ []) (put_one ps tag t cols) ∙ ap (λ l. l ++ (x, tag) ∷ []) (put_one-elsewhere ps tag t cols s d.0) in (
        subst NonesAreZero (sym is) (nones-more (cols s) x tag z.0 (λ e. absurd (omega (arith, e, tag_some ps tag t h)))),
        all_beside ps s ((x, tag) ∷ []) (put_one ps tag t cols) d.0 (one-nones ps tag t cols d.1 z.1 h),
      )
  tree-nones _ _ cols d z h = absurd (false≢true h)

  pub trees-nones : (ps : PlansData) (ts : TreesData) (cols : Cols) → AllDiffer ps → HaveZeroNones ps cols → fit_plans ps ts ≡ true
      → HaveZeroNones ps (put_trees ps ts cols)
  trees-nones no_plans ts cols d z h = tt
  trees-nones (plan p ps) no_trees cols d z h = absurd (false≢true h)
  trees-nones (plan p ps) (tree t ts) cols d z h =
      let q = and_parts (fits_plan p t) (fit_plans ps ts) h in
      let mid = put_tree p t cols in (
        nones-agree p mid (put_trees ps ts mid) (λ j i. put_trees-elsewhere ps ts mid j (d.2 j i)) (tree-nones p t cols d.0 z.0 q.0),
        trees-nones ps ts mid d.1 (all_nones-agree ps cols mid
            (λ j i. put_tree-elsewhere p t cols j (other_side (has p j) (has_any ps j) (d.2 j) i)) z.1) q.1,
      )

  one-nones : (ps : PlansData) (tag : ℕ) (t : TreeData) (cols : Cols) → AllDiffer ps → HaveZeroNones ps cols
      → fits_alternative ps tag t ≡ true → HaveZeroNones ps (put_one ps tag t cols)
  one-nones no_plans tag t cols d z h = tt
  one-nones (plan p ps) zero t cols d z h = absurd (false≢true h)
  one-nones (plan p ps) (suc zero) t cols d z h = (
    tree-nones p t cols d.0 z.0 h,
    all_nones-agree ps cols (put_tree p t cols)
        (λ j i. put_tree-elsewhere p t cols j (other_side (has p j) (has_any ps j) (d.2 j) i)) z.1,
  )
  one-nones (plan p ps) (suc (suc n)) t cols d z h = (
    nones-agree p cols (put_one ps (suc n) t cols) (λ j i. put_one-elsewhere ps (suc n) t cols j (d.2 j i)) z.0,
    one-nones ps (suc n) t cols d.1 z.1 h,
  )

-- ---- columns without elements have none

abbrev none_at : Cols
none_at k = []

mutual
  empty-nones : (p : PlanData) → HasZeroNones p none_at
  empty-nones (bool k) = tt
  empty-nones (number k bits signed) = tt
  empty-nones (text e c) = tt
  empty-nones (list e p) = empty-nones p
  empty-nones (maybe e p) = empty-nones p
  empty-nones (record_of ps) = all_empty-nones ps
  empty-nones (choice s ps) = (λ i h. absurd (omega (arith, h)), all_empty-nones ps)

  pub all_empty-nones : (ps : PlansData) → HaveZeroNones ps (λ k. [])
  all_empty-nones no_plans = tt
  all_empty-nones (plan p ps) = (empty-nones p, all_empty-nones ps)
