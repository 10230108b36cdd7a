use Rattle.std.proofs.Common.{◌-◌}
use Rattle.nt_column.specs.Elements.{numbers}
use Rattle.nt_total.proofs.Blocks.{IsPartDone}
use Rattle.nt_total.proofs.parallel.read_piece.Given as goal

abbrev pub invariant-loop-done : goal.invariant-loop-done
invariant-loop-done g l = IsPartDone (numbers (g.C.Columns.elements l.columns l.column)) l.bias l.from l.count l.done l.whole

abbrev pub decreases-loop-done : goal.decreases-loop-done
decreases-loop-done g l = l.count - l.done
