use Rattle.std.proofs.Common.{◌≡◌, ◌++◌, [], vec_len}
use Rattle.std.specs.List.{AllByRecursion}
use Rattle.crossbeam_queue.specs.Passes.{view, IsPassOf}
use Rattle.nt_pool.specs.Rule.{all_parts}
use Rattle.nt_pool.proofs.pool.put_all.Given as goal

abbrev pub invariant-loop-jobs : goal.invariant-loop-jobs
invariant-loop-jobs g l = record {
  of : IsPassOf l.line l.pass;
  parts : (view l.pass).parts ≡ all_parts;
  taken : (view l.pass).taken ≡ [];
  put : (view l.pass).put ++ l.jobs.items ≡ l.fn.jobs.items;
  ready : AllByRecursion g.J.Job.ready l.jobs.items;
}

abbrev pub decreases-loop-jobs : goal.decreases-loop-jobs
decreases-loop-jobs g l = vec_len l.jobs
