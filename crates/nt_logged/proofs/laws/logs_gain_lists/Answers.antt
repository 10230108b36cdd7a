use Rattle.nt_logged.proofs.Growing.{log-list, log-tear}
use Rattle.nt_logged.proofs.laws.logs_gain_lists.Goals as goal

pub returns-clause-list : goal.returns-clause-list
returns-clause-list g c = λ place end history lists torn steps bytes is. log-list place end history lists torn steps is bytes

pub returns-clause-tear : goal.returns-clause-tear
returns-clause-tear g c = λ place end history lists torn steps len is. log-tear place end history lists torn steps is len
