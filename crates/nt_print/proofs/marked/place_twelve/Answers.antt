use Rattle.std.proofs.Common.{take}
use Rattle.nt_print.proofs.Decimals.{long-put}
use Rattle.nt_print.proofs.marked.place_twelve.Goals as goal

pub returns-clause-text : goal.returns-clause-text
returns-clause-text c =
    long-put (take c.args.at c.args.room.now) _ _ c.args.mark c.args.n c.requires.digits.0 c.ranges.n.fits
    c.place_short-next.ensures.text c.place_six.ensures.text
