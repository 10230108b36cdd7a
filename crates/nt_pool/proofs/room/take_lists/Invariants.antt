use Rattle.std.proofs.Common.{◌≤◌, vec_len, vec_capacity, ◌-◌}
use Rattle.std.specs.List.{AllByRecursion}
use Rattle.nt_pool.specs.Pool.{IsRoomOf}
use Rattle.nt_pool.proofs.room.take_lists.Given as goal

abbrev pub invariant-loop-alloc : goal.invariant-loop-alloc
invariant-loop-alloc g l = AllByRecursion (IsRoomOf l.count) l.lists.items × (vec_len l.lists ≤ l.workers)
    × (l.workers ≤ vec_capacity l.lists)

abbrev pub decreases-loop-alloc : goal.decreases-loop-alloc
decreases-loop-alloc g l = l.workers - vec_len l.lists
