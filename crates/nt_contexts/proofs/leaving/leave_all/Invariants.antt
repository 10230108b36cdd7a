use Rattle.std.proofs.Common.{◌≡◌, ◌+◌, ◌≤◌, vec_len, vec_capacity}
use Rattle.nt_contexts.proofs.Leaves.{StillLeaves}
use Rattle.nt_contexts.proofs.leaving.leave_all.Given as goal

abbrev pub invariant-loop-seats : goal.invariant-loop-seats
invariant-loop-seats g l = record {
  leaves : StillLeaves l.committer l.clusters l.fn.seats.items l.fn.first l.fn.back.items l.seats.items l.first l.back.items l.input
      l.answer;
  counted : l.input + vec_len l.seats ≡ vec_len l.fn.seats;
  room : vec_len l.back + vec_len l.seats ≤ vec_capacity l.back;
  capacity : vec_capacity l.back ≡ vec_capacity l.fn.back;
}

abbrev pub decreases-loop-seats : goal.decreases-loop-seats
decreases-loop-seats g l = vec_len l.seats
