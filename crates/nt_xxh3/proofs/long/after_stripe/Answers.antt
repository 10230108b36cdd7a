use Rattle.nt_xxh3.proofs.Vector.{after_stripe_lanes}
use Rattle.nt_xxh3.proofs.long.after_stripe.Goals as goal

pub returns : goal.returns
returns c =
    after_stripe_lanes c.args.words c.args.stripe.now c.words_at-input.result c.words_at.result c.args.secret c.fits-words.0
    c.words_at-input.ensures c.words_at.ensures
