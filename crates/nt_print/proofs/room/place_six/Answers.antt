use Rattle.std.proofs.Common.{take}
use Rattle.nt_print.proofs.Decimals.{six-put}
use Rattle.nt_print.proofs.room.place_six.Goals as goal

pub returns-clause-text : goal.returns-clause-text
returns-clause-text c =
    six-put (take c.args.at c.args.room.now) _ _ c.args.n c.place_three-next.ensures.text c.place_three.ensures.text
