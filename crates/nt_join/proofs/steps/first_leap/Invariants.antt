use Rattle.std.proofs.Common.{◌≡◌, ◌<◌, ℕ, true}
use Rattle.nt_trees.specs.Columns.{begin_at}
use Rattle.nt_trees.specs.Faults.{stepping, is_met}
use Rattle.nt_join.proofs.steps.first_leap.Given as goal

abbrev pub invariant-loop-i : goal.invariant-loop-i
invariant-loop-i g l =
    let es = g.C.Columns.elements l.columns l.column in
    record {
      last : l.last ≡ begin_at es l.i;
      steps : (i : ℕ) → i < l.i → is_met stepping es i ≡ true;
    }
