use Rattle.std.proofs.Math.Facts.{Fits-lt-pow}
use Rattle.nt_moving.proofs.Runs.{plain-bits}
use Rattle.nt_moving.proofs.words.words_16_fit.Goals as goal

pub returns : goal.returns
returns c = plain-bits 16 c.args.list.now (λ i. Fits-lt-pow (c.type_inv.list i))
