use Rattle.test_commit.proofs.tests.threads.+fn-write_beside_each_other-join_mut+arg3+write_beside_each_other.Given as goal

abbrev pub decreases-join_mut+arg3 : goal.decreases-join_mut+arg3
decreases-join_mut+arg3 g l = l.rest

abbrev pub decreases-write_beside_each_other : goal.decreases-write_beside_each_other
decreases-write_beside_each_other g l = l.contexts
