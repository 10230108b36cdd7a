-- where nothing odd was found so far, all ends so far are steps, and so none is above its place
use Rattle.std.proofs.Common.{◌≡◌, ◌<◌, ◌≤◌, ℕ, true, map}
use Rattle.nt_column.specs.Elements.{plain}
use Rattle.nt_trees.specs.Columns.{begin_at}
use Rattle.nt_trees.specs.Faults.{stepping, is_met}
use Rattle.nt_join.proofs.steps.are_steps.Given as goal

abbrev pub invariant-loop-end : goal.invariant-loop-end
invariant-loop-end l =
    let es = map plain l.ends in
    record {
      last : l.last ≡ begin_at es l.end-index;
      few : l.odd ≡ 0 → l.last ≤ l.end-index;
      steps : l.odd ≡ 0 → (i : ℕ) → i < l.end-index → is_met stepping es i ≡ true;
    }
