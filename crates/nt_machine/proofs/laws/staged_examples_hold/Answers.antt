use Rattle.std.proofs.Common.{refl}
use Rattle.nt_machine.proofs.WorkedStaged.{runs, legal, staging}
use Rattle.nt_machine.proofs.laws.staged_examples_hold.Goals as goal

pub returns-clause-run : goal.returns-clause-run
returns-clause-run c = runs

pub returns-clause-order : goal.returns-clause-order
returns-clause-order c = refl

pub returns-clause-legal : goal.returns-clause-legal
returns-clause-legal c = legal

pub returns-clause-staging : goal.returns-clause-staging
returns-clause-staging c = staging

pub returns-clause-clusters : goal.returns-clause-clusters
returns-clause-clusters c = refl
