use Rattle.std.proofs.Common.{◌≡◌, ◌≤◌, ◌-◌, vec_len, take}
use Rattle.nt_pool.specs.Placing.{answers_of}
use Rattle.nt_pool.proofs.placing.take_number.Given as goal

abbrev pub invariant-loop-at : goal.invariant-loop-at
invariant-loop-at g l = (answers_of l.number (take l.at l.left.items) ≡ 0) × (l.at ≤ vec_len l.left) × (l.left.items ≡ l.fn.left.items)

abbrev pub decreases-loop-at : goal.decreases-loop-at
decreases-loop-at g l = vec_len l.left - l.at
