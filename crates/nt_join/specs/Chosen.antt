-- Trees of an entry that are chosen by their places.
use Rattle.std.specs.Prelude.{ℕ, zero, suc, ℤ, List, map, Option, Some, None}
use Rattle.nt_types.specs.TreeData.{TreeData, TreesData, num, nothing, no_trees, tree, trees_of}

-- the tree of an entry at this place, if there is one
abbrev pub tree_in : TreesData → ℕ → TreeData
tree_in no_trees i = nothing
tree_in (tree t ts) zero = t
tree_in (tree t ts) (suc i) = tree_in ts i

-- the trees of an entry at these places, in this order
abbrev pub chosen : List ℕ → TreesData → TreesData
chosen places entry = trees_of (map (tree_in entry) places)

-- the number that a tree is
abbrev pub number_in : TreeData → Option ℤ
number_in (num z) = Some z
number_in _ = None
