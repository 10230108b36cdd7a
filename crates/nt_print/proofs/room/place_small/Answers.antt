use Rattle.std.proofs.Common.{take, length-take-le, arith}
use Rattle.nt_print.proofs.Parts.{few-placed}
use Rattle.nt_print.proofs.room.place_small.Goals as goal

pub returns-clause-text : goal.returns-clause-text
returns-clause-text c =
    few-placed (take c.args.at c.args.room.now) c.place.new.room _ _ c.args.at c.small_word-text.result.1
    (length-take-le c.args.at c.args.room.now (omega (arith, c.requires.room))) (omega (arith, c.small_word-text.ensures.few))
    c.place.ensures.text c.small_word-text.ensures.text
