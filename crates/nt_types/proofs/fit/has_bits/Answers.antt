use Rattle.std.proofs.Common.{sym, ◌∙◌}
use Rattle.std.proofs.lemmas.Bool.{le-leb}
use Rattle.nt_types.proofs.TreeSteps.{short, high_bits}
use Rattle.nt_types.proofs.fit.has_bits.Goals as goal

pub returns-then-bits-ge128 : goal.returns-then-bits-ge128
returns-then-bits-ge128 c = le-leb 128 c.args.bits c.if-bits-ge128.true
    ∙ sym (short c.args.n c.args.bits c.ranges.n.fits c.if-bits-ge128.true)

pub returns-else-bits-ge128 : goal.returns-else-bits-ge128
returns-else-bits-ge128 c = high_bits c.args.n c.args.bits
