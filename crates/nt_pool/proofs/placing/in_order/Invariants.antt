use Rattle.std.proofs.Common.{◌≡◌, ◌≤◌, length, vec_capacity}
use Rattle.nt_pool.proofs.Placed.{Placed}
use Rattle.nt_pool.proofs.placing.in_order.Given as goal

abbrev pub invariant-loop-number : goal.invariant-loop-number
invariant-loop-number g l = record {
  placed : Placed g.J.Job.does g.J.Job.number l.fn.jobs.value.items l.number l.answers.items l.done.items;
  all : l.count ≡ length l.fn.jobs.value.items;
  room : l.count ≤ vec_capacity l.done;
}
