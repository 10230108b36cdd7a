use Rattle.std.proofs.Common.{ap, arith}
use Rattle.nt_column.specs.Kept.{Kept}
use Rattle.nt_column.proofs.Zips.{length-seen}
use Rattle.nt_column.proofs.pairs.PairList.len.Goals as goal

pub returns : goal.returns
returns c =
    let seen = length-seen _ _ _ (ap (λ (k : Kept). k.elements) c.self.view_is) (omega arith) in omega arith
