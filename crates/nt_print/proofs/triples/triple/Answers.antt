use Rattle.std.proofs.Common.{arith}
use Rattle.nt_print.proofs.TripleTable.{TRIPLES-at}
use Rattle.nt_print.proofs.triples.triple.Goals as goal

pub returns : goal.returns
returns c =
    let t = TRIPLES-at c.args.n c.requires in
    omega (arith, c.from.ensures, c.from_le_bytes.ensures, t.first, t.second, t.third, t.blank)
