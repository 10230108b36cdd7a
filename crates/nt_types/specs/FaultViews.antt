-- Which fault an error is, if it is one.
use Rattle.std.specs.Prelude.{Option, Some, None, Result, Ok, Err}
use Rattle.nt_types.specs.declared.fault.SchemaKind.{SchemaKind}
use Rattle.nt_types.specs.declared.fault.SchemaFault.{SchemaFault}
use Rattle.nt_types.specs.declared.fault.TypeError.{TypeError}
use Rattle.nt_types.specs.declared.fault.TypeError.TheVariants as types
use Rattle.nt_types.specs.declared.fault.LineError.{LineError}
use Rattle.nt_types.specs.declared.fault.LineError.TheVariants as lines
use Rattle.nt_types.specs.declared.fault.SchemaError.{SchemaError}
use Rattle.nt_types.specs.declared.fault.SchemaError.TheVariants as errors

-- what is wrong with the text of a type: that it spells none
abbrev pub type_fault : TypeError → Option (Unit {0})
type_fault types.Malformed = Some tt
type_fault types.Memory = None

-- what is read, or that it spells no type
abbrev pub or_malformed : {A : Type 0} → Option A → Result A (Unit {0})
or_malformed None = Err tt
or_malformed (Some x) = Ok x

-- what is wrong with a line
abbrev pub line_fault : LineError → Option SchemaKind
line_fault (lines.Kind k) = Some k
line_fault lines.Memory = None

-- what is wrong with a text
abbrev pub schema_fault : SchemaError → Option SchemaFault
schema_fault (errors.Fault f) = Some f
schema_fault errors.Memory = None
