use Rattle.std.proofs.Common.{arith}
use Rattle.nt_print.proofs.Optionals.{last-at}
use Rattle.nt_print.proofs.optional.last_of.Goals as goal

pub returns : goal.returns
returns c = last-at c.args.begin c.args.ends.now (omega (arith, c.if-count-eq0.false))
