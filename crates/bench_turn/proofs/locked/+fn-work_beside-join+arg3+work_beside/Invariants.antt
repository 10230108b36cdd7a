use Rattle.bench_turn.proofs.locked.+fn-work_beside-join+arg3+work_beside.Given as goal

abbrev pub decreases-join+arg3 : goal.decreases-join+arg3
decreases-join+arg3 g l = l.rest

abbrev pub decreases-work_beside : goal.decreases-work_beside
decreases-work_beside g l = l.threads
