use Rattle.std.proofs.Common.{take, arith}
use Rattle.nt_print.proofs.Decimals.{short-put}
use Rattle.nt_print.proofs.room.place_short.Goals as goal

pub returns-clause-text : goal.returns-clause-text
returns-clause-text c =
    short-put (take c.args.at c.args.room.now) _ _ c.args.mark c.args.n (omega (arith, c.if-n-lt1000.false)) c.ranges.n.fits
    c.place_small-next.ensures.text c.place_three.ensures.text
