use Rattle.std.proofs.Common.{take}
use Rattle.nt_scan.specs.Counts.{IsFirstTooMany}
use Rattle.nt_scan.proofs.counting.first_too_many.Given as goal

abbrev pub invariant-loop-column : goal.invariant-loop-column
invariant-loop-column l = IsFirstTooMany l.reader (take l.column-index l.columns) l.lowest
