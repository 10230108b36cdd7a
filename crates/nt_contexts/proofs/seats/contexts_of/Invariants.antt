use Rattle.std.proofs.Common.{◌≡◌, ◌≤◌, ◌+◌, ◌++◌, vec_len, vec_capacity}
use Rattle.std.specs.List.{AllByRecursion}
use Rattle.nt_pool.specs.Pool.{AreNumbered}
use Rattle.nt_contexts.specs.declared.seats.Context.{Context}
use Rattle.nt_contexts.specs.Jobs.{seats_in, IsContextOf}
use Rattle.nt_contexts.proofs.seats.contexts_of.Given as goal

abbrev pub invariant-loop-seats : goal.invariant-loop-seats
invariant-loop-seats g l = record {
  numbered : AreNumbered (λ (j : Context _ _ _). j.number) l.contexts.items;
  seats : seats_in l.contexts.items ++ l.seats.items ≡ l.fn.seats.items;
  all : AllByRecursion (IsContextOf l.committer l.shared) l.contexts.items;
  count : l.number ≡ vec_len l.contexts;
  few : vec_len l.contexts + vec_len l.seats ≤ 64;
  room : vec_len l.contexts + vec_len l.seats ≤ vec_capacity l.contexts;
}

abbrev pub decreases-loop-seats : goal.decreases-loop-seats
decreases-loop-seats g l = vec_len l.seats
