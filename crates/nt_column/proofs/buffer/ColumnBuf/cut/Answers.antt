use Rattle.std.proofs.Common.{◌∙◌, ap}
use Rattle.nt_column.specs.Column.{Buffer, cut_to}
use Rattle.nt_column.proofs.Buffers.{cut-seen}
use Rattle.nt_column.proofs.buffer.ColumnBuf.cut.Goals as goal

pub returns-clause-column : goal.returns-clause-column
returns-clause-column c =
    cut-seen c.self.inside.kind c.self.inside.zeros c.args.len _ _ _ c.min-self-inside.ensures c.self.invariant.1 c.cut.ensures.elements
    ∙ ap (λ (b : Buffer). cut_to c.args.len b.column) c.self.view_is
