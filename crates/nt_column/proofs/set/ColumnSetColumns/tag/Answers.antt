use Rattle.std.proofs.Common.{◌<◌, ◌∙◌, List, sym, ap, subst, length, get_or}
use Rattle.nt_column.specs.Elements.{Element, tags}
use Rattle.nt_column.proofs.Sets.{elements-at}
use Rattle.nt_column.proofs.set.ColumnSetColumns.tag.Goals as goal

pub tag-requires : goal.tag-requires
tag-requires c =
    subst (λ (es : List Element). c.args.i < length es) (elements-at c.args.self.now c.args.column _ c.column.ensures) c.requires

pub returns : goal.returns
returns c =
    c.tag.ensures
    ∙ ap (λ (es : List Element). get_or (tags es) c.args.i 0) (sym (elements-at c.args.self.now c.args.column _ c.column.ensures))
