use Rattle.nt_outside.proofs.Crashes.{left_by_sync, sync_leaves, lengthens, overwrites, settling}
use Rattle.nt_outside.proofs.laws.crashes_follow_steps.Goals as goal

pub returns-clause-syncs : goal.returns-clause-syncs
returns-clause-syncs c = λ log bytes. (left_by_sync log bytes, sync_leaves log bytes)

pub returns-clause-appends : goal.returns-clause-appends
returns-clause-appends c = lengthens

pub returns-clause-writes : goal.returns-clause-writes
returns-clause-writes c = overwrites

pub returns-clause-settles : goal.returns-clause-settles
returns-clause-settles c = settling
