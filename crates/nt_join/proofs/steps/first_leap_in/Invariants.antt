use Rattle.std.proofs.Common.{◌≡◌, ◌<◌, ℕ, true, map}
use Rattle.nt_column.specs.Elements.{plain}
use Rattle.nt_trees.specs.Columns.{begin_at}
use Rattle.nt_trees.specs.Faults.{stepping, is_met}
use Rattle.nt_join.proofs.steps.first_leap_in.Given as goal

abbrev pub invariant-loop-i : goal.invariant-loop-i
invariant-loop-i l =
    let es = map plain l.ends in
    record {
      last : l.last ≡ begin_at es l.i;
      steps : (i : ℕ) → i < l.i → is_met stepping es i ≡ true;
    }
