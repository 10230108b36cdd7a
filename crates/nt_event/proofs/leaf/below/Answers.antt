use Rattle.std.proofs.Common.{sym, ◌∙◌}
use Rattle.nt_event.proofs.Steps.{short, high_bits}
use Rattle.std.proofs.lemmas.Bool.{le-leb}
use Rattle.nt_event.proofs.leaf.below.Goals as goal

pub returns-then-bits-ge64 : goal.returns-then-bits-ge64
returns-then-bits-ge64 c = le-leb 64 c.args.bits c.if-bits-ge64.true ∙ sym (short c.args.n c.args.bits c.ranges.n.fits c.if-bits-ge64.true)

pub returns-else-bits-ge64 : goal.returns-else-bits-ge64
returns-else-bits-ge64 c = high_bits c.args.n c.args.bits
