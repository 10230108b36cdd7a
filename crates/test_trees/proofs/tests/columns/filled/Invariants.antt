use Rattle.std.proofs.Common.{◌≡◌}
use Rattle.test_trees.proofs.tests.columns.filled.Given as goal

abbrev pub invariant-loop-element : goal.invariant-loop-element
invariant-loop-element l = record {
  kind : l.buffer.column.kind ≡ l.kind;
  stored : l.buffer.column.zeros ≡ 0;
}
