use Rattle.std.proofs.Common.{rules}
use Rattle.nt_scan.proofs.Totalled.{nothing-more}
use Rattle.nt_scan.proofs.scanning.nothing.Goals as goal

pub loop-preserved : goal.loop-preserved
loop-preserved c = nothing-more c.loop.counter c.loop.running.items _ c.none.result c.none.ensures (search rules) c.loop.invariant
