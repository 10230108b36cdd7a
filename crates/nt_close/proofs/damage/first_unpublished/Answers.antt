use Rattle.std.proofs.Common.{arith}
use Rattle.nt_close.proofs.Unpublished.{none-left}
use Rattle.nt_close.proofs.damage.first_unpublished.Goals as goal

pub returns-then-clusters-ranges-clause-none : goal.returns-then-clusters-ranges-clause-none
returns-then-clusters-ranges-clause-none c = λ is.
    none-left c.args.book.now c.keeps.ensures (omega (arith, c.clusters.ensures, c.ranges-2.ensures, c.if-clusters-ranges.true))
