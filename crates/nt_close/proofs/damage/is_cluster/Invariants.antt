use Rattle.nt_close.specs.Unpublished.{NoneBeforeHas}
use Rattle.nt_close.proofs.damage.is_cluster.Given as goal

abbrev pub invariant-loop-cluster : goal.invariant-loop-cluster
invariant-loop-cluster l = NoneBeforeHas l.book l.range l.cluster
