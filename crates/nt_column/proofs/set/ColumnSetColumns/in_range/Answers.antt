use Rattle.std.proofs.Common.{arith}
use Rattle.nt_column.proofs.Sets.{in_range-next, in_range-at}
use Rattle.nt_column.proofs.set.ColumnSetColumns.in_range.Goals as goal

pub loop-buffer-preserved : goal.loop-buffer-preserved
loop-buffer-preserved c =
    in_range-next c.deref-buffer-items.result.now c.loop-buffer.buffer-index c.buffer-item.result c.loop-buffer.invariant
    c.loop-buffer-test.true c.buffer-item.is c.in_range.ensures

pub returns : goal.returns
returns c =
    rw (← c.self.view_is, ← c.deref-buffer-items.ensures.value)
    (in_range-at c.deref-buffer-items.result.now (λ k d h. c.loop-buffer.invariant k d (omega arith)))
