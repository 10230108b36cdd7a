use Rattle.std.proofs.Common.{◌≤◌, ◌-◌, map}
use Rattle.std.specs.List.{slice_range}
use Rattle.nt_column.specs.Elements.{numbers}
use Rattle.nt_trees.specs.Integers.{integer_of}
use Rattle.nt_print.specs.Integers.{integers_text}
use Rattle.nt_print.proofs.Parts.{IsPut}
use Rattle.nt_print.proofs.reading.put_read_run.Given as goal

abbrev pub invariant-loop-at : goal.invariant-loop-at
invariant-loop-at g l =
    let ns = numbers (g.C.Columns.elements l.columns l.column) in
    let integer = integer_of l.bits l.signed in
    record {
      reached : l.at ≤ l.to;
      put : IsPut l.fn.out.items l.out.items l.next (map integer (slice_range ns l.at l.to))
          (integers_text l.mark (map integer (slice_range ns l.from l.to)));
    }

abbrev pub decreases-loop-at : goal.decreases-loop-at
decreases-loop-at g l = l.to - l.at
