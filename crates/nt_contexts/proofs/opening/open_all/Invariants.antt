use Rattle.std.proofs.Common.{◌+◌, ◌≤◌, vec_len, vec_capacity}
use Rattle.nt_contexts.proofs.Opens.{StillOpens}
use Rattle.nt_contexts.proofs.opening.open_all.Given as goal

abbrev pub invariant-loop-alloc : goal.invariant-loop-alloc
invariant-loop-alloc g l = record {
  opens : StillOpens l.committer g.S.Source.state l.fn.sources.items l.sources.items l.seats.items l.first;
  room : vec_len l.seats + vec_len l.sources ≤ vec_capacity l.seats;
  few : vec_len l.seats + vec_len l.sources ≤ l.committer.birth.contexts;
}

abbrev pub decreases-loop-alloc : goal.decreases-loop-alloc
decreases-loop-alloc g l = vec_len l.sources
