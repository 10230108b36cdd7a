use Rattle.std.proofs.Common.{ap}
use Rattle.nt_column.specs.Column.{Buffer}
use Rattle.nt_column.proofs.Buffers.{zero-seen}
use Rattle.nt_column.proofs.buffer.ColumnBuf.number.Goals as goal

pub returns-then-self-gt0 : goal.returns-then-self-gt0
returns-then-self-gt0 c =
    zero-seen _ _ _ c.args.i (ap (λ (b : Buffer). b.column.elements) c.self.view_is) (c.self.invariant.1 c.if-self-gt0.true)
