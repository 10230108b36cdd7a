-- Trees that were added to columns in memory have texts of bytes, since their elements are of the columns' types.
use Rattle.std.proofs.Common.{◌≡◌, ◌∙◌, ap, subst, ℕ, zero, suc, ◌<◌, ◌^◌, true, List, [], ◌∷◌, ◌++◌, length, map, Some, arith}
use Rattle.std.proofs.Common.{append_assoc, refl, ◌+◌, ◌||◌, Bool, cond, false}
use Rattle.std.proofs.lemmas.Bool.{and_parts, false≢true}
use Rattle.std.specs.Option.{option_map}
use Rattle.std.specs.Prelude.{Option, slice_get}
use Rattle.nt_types.specs.TreeData.{TreeData, TreesData, flag, num, items, parts, pick, nothing, no_trees, tree, is_nothing}
use Rattle.nt_types.specs.TreeData as trees
use Rattle.nt_types.specs.TreeBytes.{AreBytes, HasBytes, AllHaveBytes}
use Rattle.nt_types.specs.Fits.{all_trees}
use Rattle.nt_types.specs.declared.column_type.ColumnType.{ColumnType}
use Rattle.nt_column.specs.Elements.{Element, plain, AreElementsOf}
use Rattle.nt_column.specs.Column.{Buffer, columns_of, elements_at, kind_at}
use Rattle.nt_trees.specs.Views.{cols_of}
use Rattle.nt_plans.specs.Plan.{PlanData, PlansData, bool, number, text, list, maybe, record_of, choice, no_plans, plan}
use Rattle.nt_trees.specs.Columns.{Cols, number_at, last_end, add_to}
use Rattle.nt_trees.specs.Put.{put_each, put_tree, put_trees, put_one}
use Rattle.nt_trees.specs.Fits.{fits_plan, fit_plans, fits_alternative}
use Rattle.nt_trees.proofs.Lists.{Extends, then-extends, add_to-extends}
use Rattle.nt_trees.proofs.Elsewhere.{add_to-here}
use Rattle.nt_trees.proofs.Stable.{put_each-extends, put_tree-extends, put_trees-extends}
use Rattle.nt_shred.specs.Frame.{Frame, IsPlain, Takes, AllTake, set_frame}

-- the elements of a text in a list that holds them
text_small : (before : List Element) (s : List ℕ) (after : List Element) → ((i : ℕ) → i < length (before ++ (map plain s ++ after))
    → number_at (before ++ (map plain s ++ after)) i < 256) → AreBytes s
text_small [] [] after small i = omega arith
text_small [] (b ∷ s) after small zero = small 0 (omega arith)
text_small [] (b ∷ s) after small (suc i) = text_small [] s after (λ j h. small (suc j) (omega (arith, h))) i
text_small (e ∷ before) s after small i = text_small before s after (λ j h. small (suc j) (omega (arith, h))) i

kind_framed : (bs : List Buffer) (k : ℕ) (c : ColumnType) (z : ℕ) → slice_get (set_frame bs) k ≡ Some (c, z)
    → kind_at (columns_of bs) k ≡ Some c
kind_framed [] k c z at = absurd (cc)
kind_framed (b ∷ bs) zero c z at = ap (λ (o : Option (ColumnType × ℕ)). option_map (λ (f : ColumnType × ℕ). f.0) o) at
kind_framed (b ∷ bs) (suc k) c z at = kind_framed bs k c z at

-- elements of types of 8 bits are below 256
pub small_of : (bs : List Buffer) → ((k : ℕ) (kind : ColumnType) → kind_at (columns_of bs) k ≡ Some kind
    → AreElementsOf kind (elements_at (columns_of bs) k))
    → (k : ℕ) → IsPlain (set_frame bs) k 8 → (i : ℕ) → i < length (cols_of bs k) → number_at (cols_of bs k) i < 256
small_of bs in_range k plain i less =
    let one = in_range k plain.0 (kind_framed bs k plain.0 0 plain.1) i (0, 0) less in
    subst (λ (bits : ℕ). number_at (cols_of bs k) i < 2 ^ bits) plain.3 one.number

-- columns of 8 bits have numbers below 256
module _ (fr : Frame) (new : Cols) (small : (k : ℕ) → IsPlain fr k 8 → (i : ℕ) → i < length (new k) → number_at (new k) i < 256) where
  -- each of these trees
  each_bytes : (p : PlanData) → ((t : TreeData) (cols : Cols) → fits_plan p t ≡ true → Extends (put_tree p t cols) new → HasBytes t)
      → (ts : TreesData) (cols : Cols)
      → all_trees (fits_plan p) ts ≡ true → Extends (put_each (put_tree p) ts cols) new → AllHaveBytes ts
  each_bytes p each no_trees cols h x = tt
  each_bytes p each (tree t ts) cols h x =
      let q = and_parts (fits_plan p t) (all_trees (fits_plan p) ts) h in
      let mid = put_tree p t cols in (
        each t cols q.0 (then-extends mid (put_each (put_tree p) ts mid) new
            (put_each-extends (put_tree p) (put_tree-extends p) ts mid) x),
        each_bytes p each ts mid q.1 x,
      )

  -- a tree that is something, and nothing has no texts
  maybe_bytes : (e : ℕ) (p : PlanData) (t : TreeData) (cols : Cols) → (fits_plan p t ≡ true → Extends (put_tree p t cols) new → HasBytes t)
      → (is_nothing t || fits_plan p t) ≡ true → Extends (put_tree (maybe e p) t cols) new → HasBytes t
  maybe_bytes e p t cols inner h x = go (is_nothing t) refl h x
    where
      none : (u : TreeData) → is_nothing u ≡ true → HasBytes u
      none nothing is = tt
      none _ is = absurd (false≢true is)

      go : (b : Bool) → is_nothing t ≡ b → (b || fits_plan p t) ≡ true
          → Extends (cond b (add_to e (plain (last_end (cols e)) ∷ []) cols)
          (add_to e (plain (last_end (cols e) + 1) ∷ []) (put_tree p t cols))) new → HasBytes t
      go true is g y = none t is
      go false is g y = inner g (then-extends (put_tree p t cols) (add_to e (plain (last_end (cols e) + 1) ∷ []) (put_tree p t cols)) new
          (add_to-extends e (plain (last_end (cols e) + 1) ∷ []) (put_tree p t cols)) y)

  mutual
    pub tree_bytes : (p : PlanData) (t : TreeData) (cols : Cols) → Takes p fr → fits_plan p t ≡ true
        → Extends (put_tree p t cols) new → HasBytes t
    tree_bytes (bool k) (flag b) cols takes h x = tt
    tree_bytes (number k bits signed) (num z) cols takes h x = tt
    tree_bytes (text e c) (trees.text s) cols takes h x =
        let mid = add_to c (map plain s) cols in
        let on = then-extends mid (put_tree (text e c) (trees.text s) cols) new (add_to-extends e _ mid) x c in
        let is : new c ≡ cols c ++ (map plain s ++ on.0) =
        on.1 ∙ (ap (λ (l : List Element). l ++ on.0) (add_to-here c (map plain s) cols) ∙ append_assoc (cols c) (map plain s) on.0) in
        text_small (cols c) s on.0 (subst (λ (l : List Element). (i : ℕ) → i < length l → number_at l i < 256) is (small c takes.1))
    tree_bytes (list e p) (items ts) cols takes h x =
        each_bytes p (λ t cs i y. tree_bytes p t cs takes.1 i y) ts cols h
        (then-extends (put_each (put_tree p) ts cols) (put_tree (list e p) (items ts) cols) new (add_to-extends e _ _) x)
    tree_bytes (maybe e p) t cols takes h x = maybe_bytes e p t cols (λ i y. tree_bytes p t cols takes.1 i y) h x
    tree_bytes (record_of ps) (parts ts) cols takes h x = all_bytes ps ts cols takes.1 h x
    tree_bytes (choice k ps) nothing cols takes h x = tt
    tree_bytes (choice k ps) (pick tag t) cols takes h x =
        one_bytes ps tag t cols takes.1 h (then-extends (put_one ps tag t cols) (put_tree (choice k ps) (pick tag t) cols) new
        (add_to-extends k _ _) x)
    tree_bytes _ _ cols takes h x = absurd (false≢true h)

    pub all_bytes : (ps : PlansData) (ts : TreesData) (cols : Cols) → AllTake ps fr → fit_plans ps ts ≡ true
        → Extends (put_trees ps ts cols) new → AllHaveBytes ts
    all_bytes no_plans no_trees cols takes h x = tt
    all_bytes no_plans (tree t ts) cols takes h x = absurd (false≢true h)
    all_bytes (plan p ps) no_trees cols takes h x = absurd (false≢true h)
    all_bytes (plan p ps) (tree t ts) cols takes h x =
        let q = and_parts (fits_plan p t) (fit_plans ps ts) h in
        let mid = put_tree p t cols in (
          tree_bytes p t cols takes.0 q.0 (then-extends mid (put_trees ps ts mid) new (put_trees-extends ps ts mid) x),
          all_bytes ps ts mid takes.1 q.1 x,
        )

    one_bytes : (ps : PlansData) (tag : ℕ) (t : TreeData) (cols : Cols) → AllTake ps fr → fits_alternative ps tag t ≡ true
        → Extends (put_one ps tag t cols) new → HasBytes t
    one_bytes no_plans tag t cols takes h x = absurd (false≢true h)
    one_bytes (plan p ps) zero t cols takes h x = absurd (false≢true h)
    one_bytes (plan p ps) (suc zero) t cols takes h x = tree_bytes p t cols takes.0 h x
    one_bytes (plan p ps) (suc (suc n)) t cols takes h x = one_bytes ps (suc n) t cols takes.1 h x
