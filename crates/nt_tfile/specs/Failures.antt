-- What came in place of a value, where the outside refused.
use Rattle.nt_outside.specs.declared.fault.Refused.{Refused}
use Rattle.nt_outside.specs.declared.fault.Refused.TheVariants as refused
use Rattle.nt_tfile.specs.declared.failure.ReadFailure.{ReadFailure}
use Rattle.nt_tfile.specs.declared.failure.ReadFailure.TheVariants.{Fault, Memory}

-- a fault of the outside, or want of memory
abbrev pub failure_of : Refused → ReadFailure
failure_of refused.Failed = Fault
failure_of refused.Memory = Memory
