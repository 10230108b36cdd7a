use Rattle.std.proofs.Common.{vec_len}
use Rattle.std.specs.List.{AllByRecursion}
use Rattle.nt_pool.specs.Pool.{IsEmptyList}
use Rattle.nt_pool.proofs.room.free.Given as goal

abbrev pub invariant-loop-lists : goal.invariant-loop-lists
invariant-loop-lists g l = AllByRecursion IsEmptyList l.lists.items

abbrev pub decreases-loop-lists : goal.decreases-loop-lists
decreases-loop-lists g l = vec_len l.lists
