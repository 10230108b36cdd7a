use Rattle.nt_logged.proofs.Growing.{log-reserve, log-publish}
use Rattle.nt_logged.proofs.laws.staged_logs_grow.Goals as goal

pub returns-clause-reserve : goal.returns-clause-reserve
returns-clause-reserve g c = λ place end history lists torn steps i n len meta is.
    log-reserve place end history lists torn steps is i n len meta

pub returns-clause-publish : goal.returns-clause-publish
returns-clause-publish g c = λ place end history lists torn steps i ns is.
    log-publish place end history lists torn steps is i ns
