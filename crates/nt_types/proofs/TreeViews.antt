-- What is seen of a tree, a constructor at a time.
use Rattle.std.proofs.Common.{◌≡◌, ℕ, ℤ, Bool, List, Box, Global, rules}
use Rattle.nt_types.specs.TreeData.{flag, num, text, items, parts, pick, nothing, trees_of}
use Rattle.nt_types.specs.TreeViews.{tree_view, trees_view}
use Rattle.nt_types.specs.declared.tree.Tree.{Tree, the_lemmas}
use Rattle.nt_types.specs.declared.tree.Tree as trees
use Rattle.nt_types.specs.declared.tree.Trees.{Trees}

pub view-Flag : (b : Bool) → tree_view (trees.Flag b) ≡ flag b
view-Flag b = search (rules, the_lemmas)

pub view-Num : (n : ℤ) → tree_view (trees.Num n) ≡ num n
view-Num n = search (rules, the_lemmas)

pub view-Text : (s : List ℕ) → tree_view (trees.Text s) ≡ text s
view-Text s = search (rules, the_lemmas)

pub view-Items : (ts : Trees) → tree_view (trees.Items ts) ≡ items (trees_of (trees_view ts))
view-Items ts = search (rules, the_lemmas)

pub view-Parts : (ts : Trees) → tree_view (trees.Parts ts) ≡ parts (trees_of (trees_view ts))
view-Parts ts = search (rules, the_lemmas)

pub view-Pick : (tag : ℕ) (t : Box Tree Global) → tree_view (trees.Pick tag t) ≡ pick tag (tree_view t.value)
view-Pick tag t = search (rules, the_lemmas)

pub view-Nothing : tree_view trees.Nothing ≡ nothing
view-Nothing = search (rules, the_lemmas)
