use Rattle.std.proofs.Common.{◌≡◌, ◌≤◌, ◌+◌, ◌++◌, vec_len, vec_capacity}
use Rattle.nt_contexts.specs.Jobs.{seats_in}
use Rattle.nt_contexts.proofs.seats.seats_back.Given as goal

abbrev pub invariant-loop-contexts : goal.invariant-loop-contexts
invariant-loop-contexts g l = record {
  seats : l.seats.items ++ seats_in l.contexts.items ≡ seats_in l.fn.contexts.items;
  room : vec_len l.seats + vec_len l.contexts ≤ vec_capacity l.seats;
}

abbrev pub decreases-loop-contexts : goal.decreases-loop-contexts
decreases-loop-contexts g l = vec_len l.contexts
