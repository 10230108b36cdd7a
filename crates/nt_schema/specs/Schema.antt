-- What a schema keeps beside its rows.
use Rattle.std.specs.Prelude.{true, ◌≡◌, ◌<◌, ◌≤◌, ◌^◌, length, Option}
use Rattle.std.specs.List.{list_all}
use Rattle.nt_grammar.specs.Table.{Table, is_short}
use Rattle.nt_schema.specs.ByName.{Names, HasNames}
use Rattle.nt_open.specs.Opened.{IsOpened}
use Rattle.nt_open.specs.declared.opened.OpenFields.{OpenFields}

-- rows that their ids can count, with names that a description can hold
pub record IsTable (t : Table) : Type 0 where
  pub few_fields : length t.fields < 2 ^ 32
  pub few_columns : length t.columns < 2 ^ 32
  pub header_fields : t.header_fields ≤ length t.fields
  pub header_columns : t.header_columns ≤ length t.columns
  pub short : list_all is_short t.fields ≡ true

-- a table, with the first field of each name, and what is kept of its open fields
pub record IsKept (t : Table) (names : Option Names) (kept : OpenFields) : Type 0 where
  pub rows : IsTable t
  pub by_name : HasNames names t.fields
  pub opened : IsOpened t.fields t.columns kept
