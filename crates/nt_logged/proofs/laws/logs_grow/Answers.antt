use Rattle.nt_logged.proofs.Growing.{log-fresh, log-commit, log-settle, log-spoil, log-fault}
use Rattle.nt_logged.proofs.laws.logs_grow.Goals as goal

pub returns-clause-fresh : goal.returns-clause-fresh
returns-clause-fresh g c = log-fresh

pub returns-clause-commit : goal.returns-clause-commit
returns-clause-commit g c = λ place end history lists torn steps i n len meta is.
    log-commit place end history lists torn steps is i n len meta

pub returns-clause-settle : goal.returns-clause-settle
returns-clause-settle g c = λ place end history lists torn steps i n bytes is.
    log-settle place end history lists torn steps is i n bytes

pub returns-clause-spoil : goal.returns-clause-spoil
returns-clause-spoil g c = λ place end history lists torn steps i n faults is.
    log-spoil place end history lists torn steps is i n faults

pub returns-clause-fault : goal.returns-clause-fault
returns-clause-fault g c = λ place end history lists torn steps i faults is.
    log-fault place end history lists torn steps is i faults
