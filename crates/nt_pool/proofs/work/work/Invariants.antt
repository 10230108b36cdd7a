use Rattle.nt_pool.specs.Done.{Works, IsSameWorker}
use Rattle.nt_pool.proofs.work.work.Given as goal

abbrev pub invariant-loop : goal.invariant-loop
invariant-loop g l = Works g.J.Job.number g.J.Job.does l.line l.worker × IsSameWorker l.fn.worker l.worker
