use Rattle.bench_turn.proofs.turned.+fn-work_beside-join_mut+arg3+work_beside.Given as goal

abbrev pub decreases-join_mut+arg3 : goal.decreases-join_mut+arg3
decreases-join_mut+arg3 g l = l.rest

abbrev pub decreases-work_beside : goal.decreases-work_beside
decreases-work_beside g l = l.threads
