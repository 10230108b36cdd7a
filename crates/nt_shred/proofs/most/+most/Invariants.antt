use Rattle.std.proofs.Common.{◌≡◌, ◌+◌, max, drop}
use Rattle.nt_trees.specs.Views.{trees_in}
use Rattle.nt_shred.specs.Most.{most_of_all, most_of_any}
use Rattle.nt_shred.proofs.most.+most.Given as goal

abbrev pub invariant-most_of_all-loop-tree : goal.invariant-most_of_all-loop-tree
invariant-most_of_all-loop-tree l = l.total + most_of_all (trees_in (drop l.tree-index l.trees)) ≡ most_of_all (trees_in l.trees)

abbrev pub invariant-most_of_any-loop-tree : goal.invariant-most_of_any-loop-tree
invariant-most_of_any-loop-tree l = max l.highest (most_of_any (trees_in (drop l.tree-index l.trees))) ≡ most_of_any (trees_in l.trees)
