use Rattle.std.proofs.Common.{◌≡◌, true, drop}
use Rattle.std.specs.List.{list_all}
use Rattle.nt_frame.specs.Writing.{bytes_added}
use Rattle.nt_grammar.specs.Table.{is_short}
use Rattle.nt_grammar.specs.Writing.{field_records}
use Rattle.nt_schema.proofs.writing.put_fields.Given as goal

abbrev pub invariant-loop-row : goal.invariant-loop-row
invariant-loop-row l = record {
  short : list_all is_short (drop l.row-index l.rows) ≡ true;
  written : bytes_added (field_records (drop l.row-index l.rows)) l.out ≡ bytes_added (field_records l.rows) l.initial.out;
}
