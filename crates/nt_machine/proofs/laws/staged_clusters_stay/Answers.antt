use Rattle.nt_machine.proofs.ClusterSums.{publishes-once}
use Rattle.nt_machine.proofs.StagedStay.{clusters-grow, clusters-filled}
use Rattle.nt_machine.proofs.laws.staged_clusters_stay.Goals as goal

pub returns-clause-grow : goal.returns-clause-grow
returns-clause-grow g c place history e ok staging allowed next = clusters-grow place history e ok staging next

pub returns-clause-settled : goal.returns-clause-settled
returns-clause-settled g c = clusters-filled

pub returns-clause-once : goal.returns-clause-once
returns-clause-once g c staged history i keeps = publishes-once staged history keeps i
