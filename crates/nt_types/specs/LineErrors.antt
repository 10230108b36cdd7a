-- A type that isn't read, as the fault of its line.
use Rattle.nt_types.specs.declared.fault.SchemaKind.TheVariants.{BadType}
use Rattle.nt_types.specs.declared.fault.LineError.{LineError}
use Rattle.nt_types.specs.declared.fault.LineError.TheVariants as lines
use Rattle.nt_types.specs.declared.fault.TypeError.{TypeError}
use Rattle.nt_types.specs.declared.fault.TypeError.TheVariants as types

-- what a text of no type is to its line
abbrev pub line_error : TypeError → LineError
line_error types.Malformed = lines.Kind BadType
line_error types.Memory = lines.Memory
