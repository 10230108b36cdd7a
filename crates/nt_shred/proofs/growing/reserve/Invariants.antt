use Rattle.nt_shred.proofs.Ends.{AreGrown}
use Rattle.nt_shred.proofs.growing.reserve.Given as goal

abbrev pub invariant-loop-column : goal.invariant-loop-column
invariant-loop-column l = AreGrown l.fn.out l.out l.more l.column
