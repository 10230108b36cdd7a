use Rattle.nt_disk_log.proofs.Walking.{Walked}
use Rattle.nt_disk_log.proofs.left.Leaves.after_all.Given as goal

abbrev pub invariant-loop-i : goal.invariant-loop-i
invariant-loop-i l = Walked l.leaves l.i l.rows l.bytes l.rest
