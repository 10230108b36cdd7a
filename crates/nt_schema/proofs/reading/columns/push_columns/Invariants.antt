use Rattle.std.proofs.Common.{◌≡◌, ◌-◌, ◌<◌, ◌≤◌, ◌^◌, vec_len}
use Rattle.nt_grammar.specs.Reading.{columns_on}
use Rattle.nt_schema.proofs.reading.columns.push_columns.Given as goal

-- what is left, read behind the rows so far, gives what all gives
abbrev pub invariant-loop : goal.invariant-loop
invariant-loop l = record {
  few : vec_len l.rows < 2 ^ 32;
  more : vec_len l.fn.rows ≤ vec_len l.rows;
  read : columns_on l.fields (l.count - l.counter) l.rows.items l.cur ≡ columns_on l.fields l.count l.fn.rows.items l.fn.cur;
}
