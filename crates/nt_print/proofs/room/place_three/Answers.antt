use Rattle.std.proofs.Common.{take, length-take-le, arith}
use Rattle.nt_print.proofs.Decimals.{three-text}
use Rattle.nt_print.proofs.Parts.{few-placed}
use Rattle.nt_print.proofs.room.place_three.Goals as goal

pub returns-clause-text : goal.returns-clause-text
returns-clause-text c =
    few-placed (take c.args.at c.args.room.now) c.place.new.room _ _ c.args.at 3
    (length-take-le c.args.at c.args.room.now (omega (arith, c.requires.room))) (omega arith) c.place.ensures.text
    (three-text c.args.n c.triple.result c.triple.ensures)
