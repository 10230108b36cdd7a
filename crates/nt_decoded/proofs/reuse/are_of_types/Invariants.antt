use Rattle.std.proofs.Common.{take}
use Rattle.nt_column.specs.Column.{columns_of}
use Rattle.nt_decoded.specs.Columns.{AreOfTypes}
use Rattle.nt_decoded.proofs.reuse.are_of_types.Given as goal

abbrev pub invariant-loop-id : goal.invariant-loop-id
invariant-loop-id l = AreOfTypes (take l.id l.schema.columns) (take l.id (columns_of l.columns))
