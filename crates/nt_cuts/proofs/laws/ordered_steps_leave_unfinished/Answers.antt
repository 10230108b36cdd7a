use Rattle.nt_cuts.proofs.Reading.{read-cut}
use Rattle.nt_cuts.proofs.Opening.{written-left, torn-left}
use Rattle.nt_cuts.proofs.Orders.{ordered}
use Rattle.nt_cuts.proofs.laws.ordered_steps_leave_unfinished.Goals as goal

pub returns-clause-order : goal.returns-clause-order
returns-clause-order c = λ byte bytes log order. read-cut _ _ (ordered byte bytes log order)

pub returns-clause-written : goal.returns-clause-written
returns-clause-written c = written-left

pub returns-clause-torn : goal.returns-clause-torn
returns-clause-torn c = torn-left
