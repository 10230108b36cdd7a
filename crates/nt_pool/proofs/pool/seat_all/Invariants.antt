use Rattle.std.proofs.Common.{◌≡◌, ◌<◌, ◌≤◌, ◌+◌, [], vec_len, vec_capacity}
use Rattle.std.specs.List.{AllByRecursion}
use Rattle.crossbeam_queue.specs.Passes.{view, IsPassOf}
use Rattle.nt_pool.specs.Rule.{all_parts}
use Rattle.nt_pool.specs.Pool.{IsWorker, IsRoomFor}
use Rattle.nt_pool.proofs.pool.seat_all.Given as goal

abbrev pub invariant-loop-lists : goal.invariant-loop-lists
invariant-loop-lists g l = record {
  of : IsPassOf l.line l.pass;
  put : (view l.pass).put ≡ (view l.fn.pass).put;
  taken : (view l.pass).taken ≡ [];
  parts : (view l.pass).parts + vec_len l.seats ≡ all_parts;
  seats : AllByRecursion (IsWorker g.J.Job.does g.J.Job.number l.line (view l.fn.pass).put) l.seats.items;
  lists : AllByRecursion (IsRoomFor (view l.fn.pass).put) l.lists.items;
  count : vec_len l.seats + vec_len l.lists ≡ vec_len l.fn.lists;
  few : vec_len l.fn.lists < all_parts;
  room : vec_len l.seats + vec_len l.lists ≤ vec_capacity l.seats;
}

abbrev pub decreases-loop-lists : goal.decreases-loop-lists
decreases-loop-lists g l = vec_len l.lists
