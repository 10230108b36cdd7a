-- A tree adds no more to a column than most of it.
use Rattle.std.proofs.Common.{◌≡◌, ℕ, zero, suc, ◌+◌, ◌≤◌, ◌==◌, max, Bool, cond, true, false, List, [], ◌∷◌, length}
use Rattle.std.proofs.Common.{map, sym, ◌∙◌, ap, subst, arith, length-append, inl, inr, ◌⊎◌}
use Rattle.std.proofs.lemmas.Bool.{eq-eqb, ne_eqb, cases_eq, cases_Bool, true≢false}
use Rattle.nt_types.specs.TreeData.{TreeData, TreesData, flag, num, items, parts, pick, nothing, no_trees, tree, is_nothing}
use Rattle.nt_types.specs.TreeData as trees
use Rattle.nt_column.specs.Elements.{Element, plain}
use Rattle.nt_plans.specs.Plan.{PlanData, PlansData, bool, number, text, list, maybe, record_of, choice, no_plans, plan, has, has_any}
use Rattle.nt_plans.specs.Plan.{Differ, AllDiffer}
use Rattle.nt_trees.specs.Columns.{Cols, last_end, count_tag, add_to}
use Rattle.nt_trees.specs.Put.{how_many_trees, put_each, put_tree, put_trees, put_one}
use Rattle.nt_trees.proofs.Leaves.{length-plain}
use Rattle.nt_trees.proofs.Elsewhere.{add_to-here, add_to-elsewhere, put_each-elsewhere, put_tree-elsewhere, put_trees-elsewhere}
use Rattle.nt_trees.proofs.Elsewhere.{put_one-elsewhere}
use Rattle.nt_shred.specs.Most.{most, most_of_all, most_of_any}

-- no column gets more than so many
abbrev pub AddsUpTo : ℕ → Cols → Cols → Type 0
AddsUpTo n old new = (k : ℕ) → length (new k) ≤ length (old k) + n

adds : (k : ℕ) (es : List Element) (cols : Cols) → AddsUpTo (length es) cols (add_to k es cols)
adds k es cols j = go (cases_eq j k)
  where
    go : (j ≡ k) ⊎ (j ≡ k → ⊥) → length (add_to k es cols j) ≤ length (cols j) + length es
    go (inl is) = subst (λ i. length (add_to k es cols i) ≤ length (cols i) + length es) (sym is)
        (omega (arith, ap length (add_to-here k es cols), length-append (cols k) es))
    go (inr not) = omega (arith, ap length (add_to-elsewhere k es cols j (ne_eqb j k not)))

-- elements of one column, and then one of another
one_more : (e x t n : ℕ) (old mid : Cols) → AddsUpTo n old mid → length (mid e) ≡ length (old e)
    → AddsUpTo (max 1 n) old (add_to e ((x, t) ∷ []) mid)
one_more e x t n old mid up same j = go (cases_eq j e)
  where
    go : (j ≡ e) ⊎ (j ≡ e → ⊥) → length (add_to e ((x, t) ∷ []) mid j) ≤ length (old j) + max 1 n
    go (inl is) = subst (λ i. length (add_to e ((x, t) ∷ []) mid i) ≤ length (old i) + max 1 n) (sym is)
        (omega (arith, same, ap length (add_to-here e ((x, t) ∷ []) mid), length-append (mid e) ((x, t) ∷ [])))
    go (inr not) = omega (arith, up j, ap length (add_to-elsewhere e ((x, t) ∷ []) mid j (ne_eqb j e not)))

all_adds : (p : PlanData) → ((t : TreeData) (cols : Cols) → AddsUpTo (most t) cols (put_tree p t cols))
    → (ts : TreesData) (cols : Cols) → AddsUpTo (most_of_all ts) cols (put_each (put_tree p) ts cols)
all_adds p each no_trees cols k = omega arith
all_adds p each (tree t ts) cols k = omega (arith, each t cols k, all_adds p each ts (put_tree p t cols) k)

other_way : (e c : ℕ) → (c == e) ≡ false → (e == c) ≡ false
other_way e c h = ne_eqb e c (λ (q : e ≡ c). true≢false (sym (eq-eqb c e (sym q)) ∙ h))

-- a column is one of a plan, or not
either_adds : (p : PlanData) (ps : PlansData) (t : TreeData) (ts : TreesData) (cols : Cols) (k : ℕ)
    → (has p k ≡ true → has_any ps k ≡ false) → length (put_tree p t cols k) ≤ length (cols k) + most t
    → length (put_trees ps ts (put_tree p t cols) k) ≤ length (put_tree p t cols k)
    + most_of_any ts → length (put_trees ps ts (put_tree p t cols) k) ≤ length (cols k) + max (most t) (most_of_any ts)
either_adds p ps t ts cols k other first rest = go (cases_Bool (has p k))
  where
    go : (has p k ≡ true) ⊎ (has p k ≡ false) → length (put_trees ps ts (put_tree p t cols) k) ≤ length (cols k)
        + max (most t) (most_of_any ts)
    go (inl is) = omega (arith, first, ap length (put_trees-elsewhere ps ts (put_tree p t cols) k (other is)))
    go (inr not) = omega (arith, rest, ap length (put_tree-elsewhere p t cols k not))

-- each tree adds one element at least
some_most : (t : TreeData) → 1 ≤ most t
some_most (flag b) = omega arith
some_most (num z) = omega arith
some_most (trees.text s) = omega arith
some_most (items ts) = omega arith
some_most (parts ts) = omega arith
some_most (pick tag t) = omega arith
some_most nothing = omega arith

maybe_adds : (e : ℕ) (p : PlanData) (t : TreeData) (cols : Cols) → has p e ≡ false → AddsUpTo (most t) cols (put_tree p t cols)
    → AddsUpTo (most t) cols (put_tree (maybe e p) t cols)
maybe_adds e p t cols fresh inner = go (is_nothing t)
  where
    go : (b : Bool) → AddsUpTo (most t) cols (cond b (add_to e (plain (last_end (cols e)) ∷ []) cols)
        (add_to e (plain (last_end (cols e) + 1) ∷ []) (put_tree p t cols)))
    go true = λ k. omega (arith, adds e (plain (last_end (cols e)) ∷ []) cols k, some_most t)
    go false = λ k. omega (
      arith,
      one_more e (last_end (cols e) + 1) 0 (most t) cols (put_tree p t cols) inner (ap length (put_tree-elsewhere p t cols e fresh)) k,
      some_most t,
    )

mutual
  pub tree_adds : (p : PlanData) (t : TreeData) (cols : Cols) → Differ p → AddsUpTo (most t) cols (put_tree p t cols)
  tree_adds (bool k) (flag b) cols d = adds k (plain _ ∷ []) cols
  tree_adds (number k bits signed) (num z) cols d = adds k (plain _ ∷ []) cols
  tree_adds (text e c) (trees.text s) cols d =
      let up : AddsUpTo (length s) cols (add_to c (map plain s) cols) = λ k. omega (arith, adds c (map plain s) cols k, length-plain s) in
      one_more e (last_end (cols e) + length s) 0 (length s) cols (add_to c (map plain s) cols) up
      (ap length (add_to-elsewhere c (map plain s) cols e (other_way e c d)))
  tree_adds (list e p) (items ts) cols d =
      one_more e (last_end (cols e) + how_many_trees ts) 0 (most_of_all ts) cols (put_each (put_tree p) ts cols)
      (all_adds p (λ t cs. tree_adds p t cs d.1) ts cols)
      (ap length (put_each-elsewhere (put_tree p) e (λ t cs. put_tree-elsewhere p t cs e d.0) ts cols))
  tree_adds (maybe e p) t cols d = maybe_adds e p t cols d.0 (tree_adds p t cols d.1)
  tree_adds (record_of ps) (parts ts) cols d = λ k. omega (arith, trees_add ps ts cols d k)
  tree_adds (choice s ps) nothing cols d = adds s ((0, 0) ∷ []) cols
  tree_adds (choice s ps) (pick tag t) cols d =
      one_more s (count_tag tag (cols s)) tag (most t) cols (put_one ps tag t cols) (one_adds ps tag t cols d.1)
      (ap length (put_one-elsewhere ps tag t cols s d.0))
  tree_adds _ _ cols d = λ k. omega arith

  pub trees_add : (ps : PlansData) (ts : TreesData) (cols : Cols) → AllDiffer ps → AddsUpTo (most_of_any ts) cols (put_trees ps ts cols)
  trees_add no_plans ts cols d k = omega arith
  trees_add (plan p ps) no_trees cols d k = omega arith
  trees_add (plan p ps) (tree t ts) cols d k = either_adds p ps t ts cols k (d.2 k) (tree_adds p t cols d.0 k)
      (trees_add ps ts (put_tree p t cols) d.1 k)

  one_adds : (ps : PlansData) (tag : ℕ) (t : TreeData) (cols : Cols) → AllDiffer ps → AddsUpTo (most t) cols (put_one ps tag t cols)
  one_adds no_plans tag t cols d k = omega arith
  one_adds (plan p ps) zero t cols d k = omega arith
  one_adds (plan p ps) (suc zero) t cols d k = tree_adds p t cols d.0 k
  one_adds (plan p ps) (suc (suc n)) t cols d k = one_adds ps (suc n) t cols d.1 k
