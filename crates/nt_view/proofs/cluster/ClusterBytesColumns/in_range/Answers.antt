use Rattle.std.proofs.Common.{arith}
use Rattle.nt_column.proofs.Sets.{in_range-next}
use Rattle.nt_view.proofs.Answered.{loaded-in_range}
use Rattle.nt_view.proofs.cluster.ClusterBytesColumns.in_range.Goals as goal

pub loop-buffer-preserved : goal.loop-buffer-preserved
loop-buffer-preserved c =
    in_range-next c.deref-buffer-items.result.now c.loop-buffer.buffer-index c.buffer-item.result c.loop-buffer.invariant
    c.loop-buffer-test.true c.buffer-item.is c.in_range.ensures

pub returns : goal.returns
returns c =
    loaded-in_range c.args.self.now c.deref.result.now c.self.inside.store.items c.self.inside.pages.items c.self.inside.zeros.items
    c.self.inside.table c.deref.ensures.value c.self.invariant c.self.view_is c.are_bytes.ensures
    (λ k d h. rw (← c.deref-buffer-items.ensures.value) (c.loop-buffer.invariant k d (omega arith)))
