use Rattle.std.proofs.Common.{◌≡◌, List, [], map, drop, ap, arith}
use Rattle.std.proofs.lemmas.List.{drop_all}
use Rattle.nt_types.specs.TreeData.{trees_of}
use Rattle.nt_types.specs.TreeViews.{tree_view}
use Rattle.nt_types.specs.declared.tree.Tree.{Tree}
use Rattle.nt_generate.specs.Numbers.{numbers_sum}
use Rattle.nt_generate.proofs.entries.add_numbers.Goals as goal

pub returns : goal.returns
returns c =
    let none : drop c.loop-tree.tree-index c.args.trees.now ≡ [] =
    drop_all c.loop-tree.tree-index c.args.trees.now (omega (arith, c.loop-tree-test.false)) in
    let left : numbers_sum (trees_of (map tree_view (drop c.loop-tree.tree-index c.args.trees.now))) ≡ 0 =
    ap (λ (l : List Tree). numbers_sum (trees_of (map tree_view l))) none in
    omega (arith, left, c.loop-tree.invariant.0, c.loop-tree.invariant.1)
