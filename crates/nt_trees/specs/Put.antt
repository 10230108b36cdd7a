-- What a tree adds to the columns: its elements, at their ends, and nothing else.
-- RNTuple Binary Format Specification 1.0.0.0, sections Column Description and Mapping of C++ Types to Fields and Columns.
use Rattle.std.specs.Prelude.{ℕ, zero, suc, ◌+◌, [], ◌∷◌, map, length, if◌then◌else◌}
use Rattle.nt_types.specs.TreeData.{TreeData, TreesData, flag, num, items, parts, pick, nothing, no_trees, tree, is_nothing}
use Rattle.nt_types.specs.TreeData as trees
use Rattle.nt_column.specs.Bits.{bit_of}
use Rattle.nt_column.specs.Elements.{plain}
use Rattle.nt_plans.specs.Plan.{PlanData, PlansData, bool, number, text, list, maybe, record_of, choice, no_plans, plan}
use Rattle.nt_trees.specs.Integers.{twos_complement}
use Rattle.nt_trees.specs.Columns.{Cols, last_end, count_tag, add_to}

-- how many trees there are
abbrev pub how_many_trees : TreesData → ℕ
how_many_trees no_trees = 0
how_many_trees (tree t ts) = suc (how_many_trees ts)

-- a truth value
abbrev pub put_flag : ℕ → TreeData → Cols → Cols
put_flag k (flag b) cols = add_to k (plain (bit_of b) ∷ []) cols
put_flag k _ cols = cols

-- an integer
abbrev pub put_number : ℕ → ℕ → TreeData → Cols → Cols
put_number k bits (num z) cols = add_to k (plain (twos_complement bits z) ∷ []) cols
put_number k bits _ cols = cols

-- the bytes of a text, and their end
abbrev pub put_text : ℕ → ℕ → TreeData → Cols → Cols
put_text e c (trees.text s) cols = add_to e (plain (last_end (cols e) + length s) ∷ []) (add_to c (map plain s) cols)
put_text e c _ cols = cols

-- each of these trees, one after the other
abbrev pub put_each : (TreeData → Cols → Cols) → TreesData → Cols → Cols
put_each f no_trees cols = cols
put_each f (tree t ts) cols = put_each f ts (f t cols)

-- the items of a list, and their end
abbrev pub put_items : ℕ → (TreeData → Cols → Cols) → TreeData → Cols → Cols
put_items e f (items ts) cols = add_to e (plain (last_end (cols e) + how_many_trees ts) ∷ []) (put_each f ts cols)
put_items e f _ cols = cols

-- the one value of an optional, if there is one, and the end behind it
abbrev pub put_maybe : ℕ → (TreeData → Cols → Cols) → TreeData → Cols → Cols
put_maybe e f t cols =
    if is_nothing t then add_to e (plain (last_end (cols e)) ∷ []) cols else add_to e (plain (last_end (cols e) + 1) ∷ []) (f t cols)

-- the parts of a record
abbrev pub put_parts : (TreesData → Cols → Cols) → TreeData → Cols → Cols
put_parts f (parts ts) cols = f ts cols
put_parts f _ cols = cols

-- the first of these trees, and then those behind it
abbrev pub put_next : (TreeData → Cols → Cols) → (TreesData → Cols → Cols) → TreesData → Cols → Cols
put_next f g no_trees cols = cols
put_next f g (tree t ts) cols = g ts (f t cols)

-- the tree of an alternative, with its tag and index; of nothing the tag 0
abbrev pub put_pick : ℕ → (ℕ → TreeData → Cols → Cols) → TreeData → Cols → Cols
put_pick s f nothing cols = add_to s ((0, 0) ∷ []) cols
put_pick s f (pick tag t) cols = add_to s ((count_tag tag (cols s), tag) ∷ []) (f tag t cols)
put_pick s f _ cols = cols

-- the columns, to which a tree is added
abbrev mutual
  pub put_tree : PlanData → TreeData → Cols → Cols
  put_tree (bool k) t cols = put_flag k t cols
  put_tree (number k bits signed) t cols = put_number k bits t cols
  put_tree (text e c) t cols = put_text e c t cols
  put_tree (list e p) t cols = put_items e (put_tree p) t cols
  put_tree (maybe e p) t cols = put_maybe e (put_tree p) t cols
  put_tree (record_of ps) t cols = put_parts (put_trees ps) t cols
  put_tree (choice s ps) t cols = put_pick s (put_one ps) t cols

  -- a tree of each plan is added; of the plans of all open fields at the top level, an entry
  pub put_trees : PlansData → TreesData → Cols → Cols
  put_trees no_plans ts cols = cols
  put_trees (plan p ps) ts cols = put_next (put_tree p) (put_trees ps) ts cols

  -- a tree of the alternative of this tag is added, from 1
  pub put_one : PlansData → ℕ → TreeData → Cols → Cols
  put_one no_plans tag t cols = cols
  put_one (plan p ps) zero t cols = cols
  put_one (plan p ps) (suc zero) t cols = put_tree p t cols
  put_one (plan p ps) (suc (suc n)) t cols = put_one ps (suc n) t cols
