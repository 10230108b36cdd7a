-- Rows that a description holds whole: each word that their flags ask for is written.
use Rattle.std.specs.Prelude.{◌≡◌, true, Bool, nat_le, ◌==◌}
use Rattle.std.specs.List.{list_all}
use Rattle.nt_grammar.specs.declared.rows.FieldRow.{FieldRow}
use Rattle.nt_grammar.specs.declared.rows.ColumnRow.{ColumnRow}
use Rattle.nt_grammar.specs.Codes.{deferred_flag}
use Rattle.nt_grammar.specs.Table.{Table}

-- a field has no flag: the size of an array, the field that it shows, and the checksum of its type aren't written
abbrev pub is_whole_field : FieldRow → Bool
is_whole_field r = r.flags == 0

-- a column is deferred or has no flag: the index of its first element is written, the range of its values isn't
abbrev pub is_whole_column : ColumnRow → Bool
is_whole_column c = nat_le c.flags deferred_flag

-- rows of which no flag asks for a word that isn't written
pub record AreWhole (t : Table) : Type 0 where
  pub fields : list_all is_whole_field t.fields ≡ true
  pub columns : list_all is_whole_column t.columns ≡ true
