-- A tree stays where columns grow.
use Rattle.std.proofs.Common.{Bool, true, false, cond, ◌≡◌, ℕ, zero, suc, ◌+◌, ◌-◌, ◌<◌, ◌≤◌, List, ◌++◌, length, refl, ap, ap₂, ◌∙◌, arith}
use Rattle.std.proofs.Common.{subst}
use Rattle.nt_types.specs.TreeData.{is_nothing, TreeData, TreesData, flag, num, items, parts, pick, nothing, no_trees, tree}
use Rattle.nt_types.specs.TreeData as trees
use Rattle.nt_column.specs.Elements.{Element}
use Rattle.nt_plans.specs.Plan.{PlanData, PlansData, bool, number, text, list, maybe, record_of, choice, no_plans, plan}
use Rattle.nt_trees.specs.TreeAt.{only, text_from, trees_from, picked, tree_at, each_at, one_at}
use Rattle.nt_trees.specs.Integers.{integer_of, truth_of}
use Rattle.nt_trees.specs.Columns.{Cols, number_at, tag_at, begin_at, last_end, count_tag}
use Rattle.nt_trees.specs.Sound.{Sound, AllSound, EachSound}
use Rattle.nt_trees.specs.Put.{put_each, put_tree, put_trees, put_one}
use Rattle.nt_trees.proofs.Lists.{Extends, same-extends, then-extends, add_to-extends, number_at-more, begin_at-more, begin_at-le-last}
use Rattle.nt_trees.proofs.Lists.{tag_at-more, index-within, text_from-more}

pub put_each-extends : (f : TreeData → Cols → Cols) → ((t : TreeData) (cols : Cols) → Extends cols (f t cols))
    → (ts : TreesData) (cols : Cols) → Extends cols (put_each f ts cols)
put_each-extends f each no_trees cols = same-extends cols
put_each-extends f each (tree t ts) cols = then-extends cols (f t cols) _ (each t cols) (put_each-extends f each ts (f t cols))

either-extends : (b : Bool) (cols x y : Cols) → Extends cols x → Extends cols y → Extends cols (cond b x y)
either-extends true cols x y f g = f
either-extends false cols x y f g = g

mutual
  pub put_tree-extends : (p : PlanData) (t : TreeData) (cols : Cols) → Extends cols (put_tree p t cols)
  put_tree-extends (bool k) (flag b) cols = add_to-extends k _ cols
  put_tree-extends (number k bits signed) (num n) cols = add_to-extends k _ cols
  put_tree-extends (text e c) (trees.text s) cols = then-extends cols _ _ (add_to-extends c _ cols) (add_to-extends e _ _)
  put_tree-extends (list e p) (items ts) cols = then-extends cols _ _
      (put_each-extends (put_tree p) (λ t cs. put_tree-extends p t cs) ts cols) (add_to-extends e _ _)
  put_tree-extends (maybe e p) t cols =
      either-extends (is_nothing t) cols _ _ (add_to-extends e _ cols)
      (then-extends cols _ _ (put_tree-extends p t cols) (add_to-extends e _ _))
  put_tree-extends (record_of ps) (parts ts) cols = put_trees-extends ps ts cols
  put_tree-extends (choice s ps) nothing cols = add_to-extends s _ cols
  put_tree-extends (choice s ps) (pick tag t) cols = then-extends cols _ _ (put_one-extends ps tag t cols) (add_to-extends s _ _)
  put_tree-extends _ _ cols = same-extends cols

  pub put_trees-extends : (ps : PlansData) (ts : TreesData) (cols : Cols) → Extends cols (put_trees ps ts cols)
  put_trees-extends no_plans ts cols = same-extends cols
  put_trees-extends (plan p ps) no_trees cols = same-extends cols
  put_trees-extends (plan p ps) (tree t ts) cols = then-extends cols (put_tree p t cols) _ (put_tree-extends p t cols)
      (put_trees-extends ps ts (put_tree p t cols))

  pub put_one-extends : (ps : PlansData) (tag : ℕ) (t : TreeData) (cols : Cols) → Extends cols (put_one ps tag t cols)
  put_one-extends no_plans tag t cols = same-extends cols
  put_one-extends (plan p ps) zero t cols = same-extends cols
  put_one-extends (plan p ps) (suc zero) t cols = put_tree-extends p t cols
  put_one-extends (plan p ps) (suc (suc n)) t cols = put_one-extends ps (suc n) t cols

pub trees_from-same : (f g : ℕ → TreeData) (at n : ℕ) → ((x : ℕ) → at ≤ x → x < at + n → f x ≡ g x) → trees_from f at n ≡ trees_from g at n
trees_from-same f g at zero h = refl
trees_from-same f g at (suc n) h = ap₂ tree (h at (omega arith) (omega arith))
    (trees_from-same f g (suc at) n (λ x l m. h x (omega arith) (omega arith)))

pub picked-same : (tag : ℕ) (f g : ℕ → TreeData) → (0 < tag → f tag ≡ g tag) → picked tag f ≡ picked tag g
picked-same zero f g h = refl
picked-same (suc n) f g h = ap (pick (suc n)) (h (omega arith))

-- where the part of an element begins and ends, where more follow
begins-more : (es new more : List Element) (i : ℕ) → new ≡ es ++ more → i < length es → (begin_at new i ≡ begin_at es i)
    × (begin_at new (suc i) ≡ begin_at es (suc i))
begins-more es new more i is h = (
  ap (λ l. begin_at l i) is ∙ begin_at-more es more i (omega arith),
  ap (λ l. begin_at l (suc i)) is ∙ begin_at-more es more (suc i) (omega arith),
)

pub number_at-stays : (old new : Cols) (k i : ℕ) → Extends old new → i < length (old k) → number_at (new k) i ≡ number_at (old k) i
number_at-stays old new k i x h = ap (λ l. number_at l i) (x k).1 ∙ number_at-more (old k) (x k).0 i h

mutual
  pub tree_at-stays : (p : PlanData) (old new : Cols) (n i : ℕ) → Extends old new → Sound p old n → i < n
      → tree_at p new i ≡ tree_at p old i
  tree_at-stays (bool k) old new n i x s h = ap (λ m. flag (truth_of m)) (number_at-stays old new k i x (omega (arith, s)))
  tree_at-stays (number k bits signed) old new n i x s h =
      ap (λ m. num (integer_of bits signed m)) (number_at-stays old new k i x (omega (arith, s)))
  tree_at-stays (text e c) old new n i x s h =
      let b = begins-more (old e) (new e) (x e).0 i (x e).1 (omega (arith, s.0)) in
      let rise = s.1 i (omega (arith, s.0)) in
      let last = begin_at-le-last (old e) s.1 (suc i) (omega (arith, s.0)) in
      rw (b.0, b.1) (ap (λ l. trees.text (text_from l (begin_at (old e) i) (begin_at (old e) (suc i) - begin_at (old e) i))) (x c).1
      ∙ ap trees.text (text_from-more (old c) (x c).0 _ _ (omega (arith, s.2))))
  tree_at-stays (list e p) old new n i x s h =
      let b = begins-more (old e) (new e) (x e).0 i (x e).1 (omega (arith, s.0)) in
      let rise = s.1 i (omega (arith, s.0)) in
      let last = begin_at-le-last (old e) s.1 (suc i) (omega (arith, s.0)) in
      rw (b.0, b.1) (ap items (trees_from-same _ _ _ _ (λ j l m. tree_at-stays p old new (last_end (old e)) j x s.2 (omega arith))))
  tree_at-stays (maybe e p) old new n i x s h =
      let b = begins-more (old e) (new e) (x e).0 i (x e).1 (omega (arith, s.0)) in
      let rise = s.1 i (omega (arith, s.0)) in
      let last = begin_at-le-last (old e) s.1 (suc i) (omega (arith, s.0)) in
      rw (b.0, b.1) (ap only (trees_from-same _ _ _ _ (λ j l m. tree_at-stays p old new (last_end (old e)) j x s.3 (omega arith))))
  tree_at-stays (record_of ps) old new n i x s h = ap parts (each_at-stays ps old new n i x s h)
  tree_at-stays (choice k ps) old new n i x s h =
      let inside : i < length (old k) = omega (arith, s.0) in
      let tag = ap (λ l. tag_at l i) (x k).1 ∙ tag_at-more (old k) (x k).0 i inside in
      let index = number_at-stays old new k i x inside in
      (λ j. picked (tag j) (λ t. one_at ps t new (index j)))
      ∙ picked-same (tag_at (old k) i) _ _ (λ some. one_at-stays ps 0 (tag_at (old k) i) (tag_at (old k) i) (old k) old new _
      (omega arith) x s.3 (index-within (old k) s.2 i inside some))

  pub each_at-stays : (ps : PlansData) (old new : Cols) (n i : ℕ) → Extends old new → AllSound ps old n → i < n
      → each_at ps new i ≡ each_at ps old i
  each_at-stays no_plans old new n i x s h = refl
  each_at-stays (plan p ps) old new n i x s h = ap₂ tree (tree_at-stays p old new n i x s.0 h) (each_at-stays ps old new n i x s.1 h)

  -- tags are counted behind those before
  pub one_at-stays : (ps : PlansData) (before tag whole : ℕ) (es : List Element) (old new : Cols) (m : ℕ) → whole ≡ before + tag
      → Extends old new → EachSound before ps es old → m < count_tag whole es → one_at ps tag new m ≡ one_at ps tag old m
  one_at-stays no_plans before tag whole es old new m is x s h = refl
  one_at-stays (plan p ps) before zero whole es old new m is x s h = refl
  one_at-stays (plan p ps) before (suc zero) whole es old new m is x s h =
      let same : whole ≡ suc before = omega arith in
      tree_at-stays p old new (count_tag (suc before) es) m x s.0 (subst (λ t. m < count_tag t es) same h)
  one_at-stays (plan p ps) before (suc (suc n)) whole es old new m is x s h =
      one_at-stays ps (suc before) (suc n) whole es old new m (omega arith) x s.1 h
