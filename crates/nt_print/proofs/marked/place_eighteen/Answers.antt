use Rattle.std.proofs.Common.{take, arith}
use Rattle.nt_print.proofs.Decimals.{long-put}
use Rattle.nt_print.proofs.marked.place_eighteen.Goals as goal

pub returns-clause-text : goal.returns-clause-text
returns-clause-text c =
    long-put (take c.args.at c.args.room.now) _ _ c.args.mark c.args.n (omega (arith, c.requires.digits.0)) c.ranges.n.fits
    c.place_twelve-next.ensures.text
    c.place_six.ensures.text
