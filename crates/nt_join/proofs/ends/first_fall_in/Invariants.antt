use Rattle.std.proofs.Common.{◌≡◌, ◌<◌, ◌≤◌, ℕ, suc, map}
use Rattle.nt_column.specs.Elements.{plain}
use Rattle.nt_trees.specs.Columns.{begin_at}
use Rattle.nt_join.proofs.ends.first_fall_in.Given as goal

abbrev pub invariant-loop-i : goal.invariant-loop-i
invariant-loop-i l =
    let es = map plain l.ends in
    record {
      last : l.last ≡ begin_at es l.i;
      rises : (i : ℕ) → i < l.i → begin_at es i ≤ begin_at es (suc i);
    }
