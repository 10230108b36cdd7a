use Rattle.std.proofs.Common.{◌≡◌, ℕ, drop}
use Rattle.nt_view.specs.Loaded.{zeros_listed}
use Rattle.nt_view.specs.Table.{held_at, zeros_held, HasSamePages}
use Rattle.nt_view.proofs.table.set_zeros.Given as goal

abbrev pub invariant-loop-zero : goal.invariant-loop-zero
invariant-loop-zero l = record {
  zero : (k : ℕ) → zeros_listed 0 k l.zeros ≡ zeros_listed (zeros_held (held_at l.columns.items k)) k (drop l.zero-index l.zeros);
  pages : (k : ℕ) → HasSamePages (held_at l.initial.columns.items k) (held_at l.columns.items k);
}
