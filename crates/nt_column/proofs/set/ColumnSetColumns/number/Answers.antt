use Rattle.std.proofs.Common.{◌<◌, ◌∙◌, List, sym, ap, subst, length, get_or}
use Rattle.nt_column.specs.Elements.{Element, numbers}
use Rattle.nt_column.proofs.Sets.{elements-at}
use Rattle.nt_column.proofs.set.ColumnSetColumns.number.Goals as goal

pub number-requires : goal.number-requires
number-requires c =
    subst (λ (es : List Element). c.args.i < length es) (elements-at c.args.self.now c.args.column _ c.column.ensures) c.requires

pub returns : goal.returns
returns c =
    c.number.ensures
    ∙ ap (λ (es : List Element). get_or (numbers es) c.args.i 0) (sym (elements-at c.args.self.now c.args.column _ c.column.ensures))
