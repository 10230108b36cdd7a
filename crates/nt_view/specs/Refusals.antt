-- What came in place of loaded pages, where the outside refused.
use Rattle.nt_outside.specs.declared.fault.Refused.{Refused}
use Rattle.nt_outside.specs.declared.fault.Refused.TheVariants as refused
use Rattle.nt_view.specs.declared.fault.ViewFault.{ViewFault}
use Rattle.nt_view.specs.declared.fault.ViewFault.TheVariants.{Fault, Memory}

-- a fault of the outside, or want of memory
abbrev pub fault_of_refused : Refused → ViewFault
fault_of_refused refused.Failed = Fault
fault_of_refused refused.Memory = Memory
