-- What the errors of a description mean, and the rows that are read.
use Rattle.std.specs.Prelude.{◌≡◌, ◌<◌, ◌^◌, true, Option, Some, None, Vec, vec_len}
use Rattle.std.specs.List.{list_all}
use Rattle.std.specs.declared.alloc.Global.{Global}
use Rattle.nt_num.specs.Codes.{bad_frame, bad_field, bad_column}
use Rattle.nt_num.specs.Faults.{fault, with_values}
use Rattle.nt_num.specs.declared.fault.ReadError.{ReadError}
use Rattle.nt_grammar.specs.Table.{is_short}
use Rattle.nt_grammar.specs.declared.rows.FieldRow.{FieldRow}
use Rattle.nt_grammar.specs.declared.rows.ColumnRow.{ColumnRow}
use Rattle.nt_schema.specs.declared.description_error.DescriptionError.{DescriptionError}
use Rattle.nt_schema.specs.declared.description_error.DescriptionError.TheVariants.{BadFrame, BadField, BadColumn, Memory}

-- the fault that an error is; want of memory is none
abbrev pub fault_of : DescriptionError → Option ReadError
fault_of (BadFrame at) = Some (fault bad_frame at)
fault_of (BadField at id parent) = Some (with_values id parent (fault bad_field at))
fault_of (BadColumn at count id) = Some (with_values count id (fault bad_column at))
fault_of Memory = None

-- fields that ids can count, with names that a description can hold
pub record AreShortFields (fields : Vec FieldRow Global) : Type 0 where
  pub few : vec_len fields < 2 ^ 32
  pub short : list_all is_short fields.items ≡ true

-- with columns that ids can count
pub record AreShortRows (fields : Vec FieldRow Global) (columns : Vec ColumnRow Global) : Type 0 where
  pub few_fields : vec_len fields < 2 ^ 32
  pub few_columns : vec_len columns < 2 ^ 32
  pub short : list_all is_short fields.items ≡ true
