use Rattle.std.proofs.Common.{◌∙◌, sym, ap, length}
use Rattle.nt_column.proofs.Sets.{elements-at}
use Rattle.nt_column.proofs.set.ColumnSetColumns.len.Goals as goal

pub returns-then-column-columns : goal.returns-then-column-columns
returns-then-column-columns c = c.len.ensures ∙ ap length (sym (elements-at c.args.self.now c.args.column _ c.column.ensures))
