use Rattle.std.proofs.Common.{◌≡◌, ◌≤◌, ◌-◌, ℕ, None, vec_len}
use Rattle.nt_open.specs.Uses.{use_at}
use Rattle.nt_open.proofs.uses.no_uses.Given as goal

abbrev pub invariant-loop-uses : goal.invariant-loop-uses
invariant-loop-uses l = record {
  count : vec_len l.uses ≤ l.count;
  none : (k : ℕ) → use_at l.uses.items k ≡ None;
}

abbrev pub decreases-loop-uses : goal.decreases-loop-uses
decreases-loop-uses l = l.count - vec_len l.uses
