use Rattle.std.proofs.Common.{◌≡◌, ◌≤◌, ◌+◌, ◌-◌, ◌^◌, map, drop}
use Rattle.nt_types.specs.TreeData.{trees_of}
use Rattle.nt_types.specs.TreeViews.{tree_view}
use Rattle.nt_generate.specs.Numbers.{entry_sum}
use Rattle.nt_generate.specs.Totals.{counted_to}
use Rattle.nt_generate.proofs.entries.add_fields.Given as goal

-- what is left is to be added
abbrev pub invariant-loop-tree : goal.invariant-loop-tree
invariant-loop-tree l =
    (l.total ≤ 2 ^ 64 - 1)
    × (counted_to (l.total + entry_sum (trees_of (map tree_view (drop l.tree-index l.trees))))
    ≡ counted_to (l.sum + entry_sum (trees_of (map tree_view l.trees))))
