use Rattle.std.proofs.Common.{◌≡◌, ◌-◌, ◌<◌, ◌≤◌, ◌^◌, true, vec_len}
use Rattle.std.specs.List.{list_all}
use Rattle.nt_grammar.specs.Table.{is_short}
use Rattle.nt_grammar.specs.Reading.{fields_on}
use Rattle.nt_schema.proofs.reading.fields.push_fields.Given as goal

-- what is left, read behind the rows so far, gives what all gives
abbrev pub invariant-loop : goal.invariant-loop
invariant-loop l = record {
  few : vec_len l.rows < 2 ^ 32;
  more : vec_len l.fn.rows ≤ vec_len l.rows;
  short : list_all is_short l.rows.items ≡ true;
  read : fields_on (l.count - l.counter) l.rows.items l.cur ≡ fields_on l.count l.fn.rows.items l.fn.cur;
}
