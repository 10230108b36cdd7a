use Rattle.std.proofs.Common.{ℕ, ap, sym, ◌∙◌}
use Rattle.std.specs.Int.{div_ceil}
use Rattle.nt_lists.proofs.Groups.{length-chunks}
use Rattle.nt_column.proofs.buffer.ColumnBuf.page_cut.Goals as goal

pub returns : goal.returns
returns c =
    c.div_ceil.ensures
    ∙ (ap (λ (n : ℕ). div_ceil n c.args.page) c.len.ensures ∙ sym (length-chunks c.args.page c.args.self.now.column.elements))
