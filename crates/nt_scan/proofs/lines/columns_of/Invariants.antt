use Rattle.std.proofs.Common.{◌≡◌, take}
use Rattle.nt_scan.specs.Leaves.{leaf_columns}
use Rattle.nt_scan.proofs.lines.columns_of.Given as goal

abbrev pub invariant-loop-leaf : goal.invariant-loop-leaf
invariant-loop-leaf l = l.columns.items ≡ leaf_columns (take l.leaf-index l.leaves)
