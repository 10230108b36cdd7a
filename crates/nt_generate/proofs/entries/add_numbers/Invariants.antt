use Rattle.std.proofs.Common.{◌≡◌, ◌≤◌, ◌+◌, ◌-◌, ◌^◌, map, drop}
use Rattle.nt_types.specs.TreeData.{trees_of}
use Rattle.nt_types.specs.TreeViews.{tree_view}
use Rattle.nt_generate.specs.Numbers.{numbers_sum}
use Rattle.nt_generate.specs.Totals.{counted_to}
use Rattle.nt_generate.proofs.entries.add_numbers.Given as goal

-- what is left is to be added
abbrev pub invariant-loop-tree : goal.invariant-loop-tree
invariant-loop-tree l =
    (l.total ≤ 2 ^ 64 - 1)
    × (counted_to (l.total + numbers_sum (trees_of (map tree_view (drop l.tree-index l.trees))))
    ≡ counted_to (l.sum + numbers_sum (trees_of (map tree_view l.trees))))
