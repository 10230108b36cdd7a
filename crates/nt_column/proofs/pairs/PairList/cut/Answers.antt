use Rattle.std.proofs.Common.{◌∙◌, ap, take}
use Rattle.nt_column.specs.Kept.{Kept}
use Rattle.nt_column.proofs.Zips.{zip-take}
use Rattle.nt_column.proofs.pairs.PairList.cut.Goals as goal

pub returns-clause-elements : goal.returns-clause-elements
returns-clause-elements c =
    rw (c.truncate.ensures.items, c.truncate-2.ensures.items)
    (zip-take c.args.len c.self.inside.indices.items c.self.inside.tags.items
    ∙ ap (λ (k : Kept). take c.args.len k.elements) c.self.view_is)
