use Rattle.std.proofs.Common.{ap, arith}
use Rattle.nt_column.specs.Kept.{Kept}
use Rattle.nt_column.proofs.Zips.{length-seen, page-seen}
use Rattle.nt_column.proofs.pairs.PairList.encode.Goals as goal

pub encode_part-requires-clause-within : goal.encode_part-requires-clause-within
encode_part-requires-clause-within c =
    let seen = length-seen _ _ _ (ap (λ (k : Kept). k.elements) c.self.view_is) (omega arith) in omega arith

pub returns : goal.returns
returns c =
    page-seen _ _ _ c.args.from c.args.to _ (ap (λ (k : Kept). k.elements) c.self.view_is) (omega arith)
    (rw (c.deref.ensures.value, c.deref-2.ensures.value) at c.encode_part.ensures)
