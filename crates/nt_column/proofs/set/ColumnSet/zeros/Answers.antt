use Rattle.std.proofs.Common.{◌∙◌, sym}
use Rattle.nt_column.specs.Column.{Column, zeroed}
use Rattle.nt_column.proofs.Sets.{elements-at, columns-changed}
use Rattle.nt_column.proofs.set.ColumnSet.zeros.Goals as goal

pub zeros-requires : goal.zeros-requires
zeros-requires c = sym (elements-at c.args.self.now c.args.column _ c.buffer.ensures.value) ∙ c.requires.empty

pub returns : goal.returns
returns c =
    columns-changed
    (λ (x : Column). zeroed x.kind c.args.count) c.args.self.now c.args.column _ _ c.buffer.ensures.value c.zeros.ensures.column
