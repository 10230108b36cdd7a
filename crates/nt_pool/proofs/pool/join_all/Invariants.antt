use Rattle.std.proofs.Common.{◌≡◌, ◌+◌, vec_len}
use Rattle.std.specs.List.{AllByRecursion}
use Rattle.crossbeam_queue.specs.Passes.{view}
use Rattle.nt_pool.specs.Done.{Works}
use Rattle.nt_pool.specs.Pool.{IsWorker}
use Rattle.nt_pool.proofs.pool.join_all.Given as goal

abbrev pub invariant-loop-seats : goal.invariant-loop-seats
invariant-loop-seats g l = record {
  works : Works g.J.Job.number g.J.Job.does l.line l.own;
  parts : (view l.own.pass).parts + vec_len l.seats ≡ (view l.fn.own.pass).parts + vec_len l.fn.seats;
  put : (view l.own.pass).put ≡ (view l.fn.own.pass).put;
  seats : AllByRecursion (IsWorker g.J.Job.does g.J.Job.number l.line (view l.fn.own.pass).put) l.seats.items;
}

abbrev pub decreases-loop-seats : goal.decreases-loop-seats
decreases-loop-seats g l = vec_len l.seats
