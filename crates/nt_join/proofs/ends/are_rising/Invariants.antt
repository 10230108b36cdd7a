-- where no highest bit was seen so far, none of the ends so far is below the one before
use Rattle.std.proofs.Common.{◌≡◌, ◌<◌, ◌≤◌, ◌^◌, ℕ, true, map}
use Rattle.nt_column.specs.Elements.{plain}
use Rattle.nt_trees.specs.Columns.{begin_at}
use Rattle.nt_trees.specs.Faults.{rising, is_met}
use Rattle.nt_join.proofs.ends.are_rising.Given as goal

abbrev pub invariant-loop-end : goal.invariant-loop-end
invariant-loop-end l =
    let es = map plain l.ends in
    record {
      last : l.last ≡ begin_at es l.end-index;
      few : l.seen < 2 ^ 63 → l.last < 2 ^ 63;
      rises : l.seen < 2 ^ 63 → (i : ℕ) → i < l.end-index → is_met rising es i ≡ true;
    }
