use Rattle.std.proofs.Common.{◌≡◌, ◌<◌, ◌≤◌, ℕ, suc}
use Rattle.nt_trees.specs.Columns.{begin_at}
use Rattle.nt_join.proofs.ends.first_fall.Given as goal

abbrev pub invariant-loop-i : goal.invariant-loop-i
invariant-loop-i g l =
    let es = g.C.Columns.elements l.columns l.column in
    record {
      last : l.last ≡ begin_at es l.i;
      rises : (i : ℕ) → i < l.i → begin_at es i ≤ begin_at es (suc i);
    }
