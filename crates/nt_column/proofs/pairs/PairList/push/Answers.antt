use Rattle.std.proofs.Common.{ap, arith}
use Rattle.nt_column.specs.Kept.{Kept}
use Rattle.nt_column.proofs.Zips.{push-seen}
use Rattle.nt_column.proofs.pairs.PairList.push.Goals as goal

pub returns-clause-elements : goal.returns-clause-elements
returns-clause-elements c =
    push-seen _ _ _ c.args.index c.args.tag _ _ (ap (λ (k : Kept). k.elements) c.self.view_is)
    (omega arith) c.push_reserved.ensures.items c.push_reserved-2.ensures.items
