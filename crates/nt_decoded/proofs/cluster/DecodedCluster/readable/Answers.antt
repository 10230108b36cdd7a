use Rattle.nt_decoded.proofs.Fitting.{entry-readable, entry-given}
use Rattle.nt_decoded.proofs.cluster.DecodedCluster.readable.Goals as goal

pub returns-clause-readable : goal.returns-clause-readable
returns-clause-readable c = λ i less. entry-readable _ _ i c.self.view_is c.self.invariant less

pub returns-clause-given : goal.returns-clause-given
returns-clause-given c = λ i less. entry-given _ _ i c.self.view_is less
