use Rattle.nt_xxh3.proofs.Vector.{scrambled_lanes}
use Rattle.nt_xxh3.proofs.long.scrambled.Goals as goal

pub returns : goal.returns
returns c = scrambled_lanes c.args.words c.words_at.result c.fits-words.0 c.words_at.ensures
