-- A fault at a line.
use Rattle.std.specs.Prelude.{ℕ, ◌≡◌}
use Rattle.nt_types.specs.declared.fault.LineError.{LineError}
use Rattle.nt_types.specs.declared.fault.LineError.TheVariants as lines
use Rattle.nt_types.specs.declared.fault.SchemaError.{SchemaError}
use Rattle.nt_types.specs.declared.fault.SchemaError.TheVariants as errors

-- an error of a line, at its number
abbrev pub at : LineError → ℕ → SchemaError
at (lines.Kind k) n = errors.Fault (record { line = n; kind = k })
at lines.Memory n = errors.Memory

-- an error is that of this line
abbrev pub IsOnLine : SchemaError → LineError → ℕ → Type 0
IsOnLine error inner n = error ≡ at inner n
