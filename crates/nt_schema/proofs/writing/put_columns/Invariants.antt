use Rattle.std.proofs.Common.{◌≡◌, drop}
use Rattle.nt_frame.specs.Writing.{bytes_added}
use Rattle.nt_grammar.specs.Writing.{column_records}
use Rattle.nt_schema.proofs.writing.put_columns.Given as goal

abbrev pub invariant-loop-row : goal.invariant-loop-row
invariant-loop-row l = bytes_added (column_records (drop l.row-index l.rows)) l.out ≡ bytes_added (column_records l.rows) l.initial.out
