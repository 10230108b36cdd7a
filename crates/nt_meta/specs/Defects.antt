-- The errors of calls that read payloads.
use Rattle.std.specs.Prelude.{Option, Some, None}
use Rattle.nt_num.specs.declared.fault.ReadError.{ReadError}
use Rattle.nt_meta.specs.declared.error.MetaError.{MetaError}
use Rattle.nt_meta.specs.declared.error.MetaError.TheVariants.{Defect, Memory}

-- the fault that an error tells; want of memory is none
abbrev pub defect_of : MetaError → Option ReadError
defect_of (Defect e) = Some e
defect_of Memory = None
