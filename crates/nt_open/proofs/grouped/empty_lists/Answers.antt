use Rattle.std.proofs.Common.{arith}
use Rattle.nt_open.proofs.ByField.{items_at-snoc}
use Rattle.nt_open.proofs.grouped.empty_lists.Goals as goal

pub loop-alloc-preserved : goal.loop-alloc-preserved
loop-alloc-preserved g c = record {
  count = omega (arith, c.in_ok-push.ensures.len);
  empty = rw c.in_ok-push.ensures.items
      (items_at-snoc c.loop-alloc.lists.items c.new.result c.new.ensures.items c.loop-alloc.invariant.empty);
}
