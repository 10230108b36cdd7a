use Rattle.std.proofs.Common.{ap, arith}
use Rattle.nt_column.specs.Kept.{Kept}
use Rattle.nt_column.proofs.Zips.{length-seen, number-seen}
use Rattle.nt_column.proofs.pairs.PairList.index.Goals as goal

pub index-requires : goal.index-requires
index-requires c =
    let seen = length-seen _ _ _ (ap (λ (k : Kept). k.elements) c.self.view_is) (omega arith) in omega arith

pub returns : goal.returns
returns c =
    let seen = length-seen _ _ _ (ap (λ (k : Kept). k.elements) c.self.view_is) (omega arith) in
    number-seen _ _ _ c.args.i _ (ap (λ (k : Kept). k.elements) c.self.view_is) (omega arith) (omega arith) c.index.ensures
