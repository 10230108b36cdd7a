-- Refusals of others, as reasons why a file isn't made.
use Rattle.nt_outside.specs.declared.fault.Refused.{Refused}
use Rattle.nt_outside.specs.declared.fault.Refused.TheVariants as refused
use Rattle.nt_tfile.specs.declared.failure.ReadFailure.{ReadFailure}
use Rattle.nt_tfile.specs.declared.failure.ReadFailure.TheVariants as read
use Rattle.nt_store.specs.declared.error.StoreError.{StoreError}
use Rattle.nt_store.specs.declared.error.StoreError.TheVariants as store
use Rattle.nt_generate.specs.declared.error.GenerateError.{GenerateError}
use Rattle.nt_generate.specs.declared.error.GenerateError.TheVariants.{Outside, Memory, Limit, Defect}

-- a refusal of the outside
abbrev pub generate_refusal : Refused → GenerateError
generate_refusal refused.Failed = Outside
generate_refusal refused.Memory = Memory

-- a file that isn't read back
abbrev pub generate_failure : ReadFailure → GenerateError
generate_failure (read.Defect e) = Defect e
generate_failure read.Fault = Outside
generate_failure read.Memory = Memory

-- a file that isn't written; no text that is made is bad, so what stands for a bad one never comes
abbrev pub generate_unwritten : StoreError → GenerateError
generate_unwritten store.Outside = Outside
generate_unwritten store.Memory = Memory
generate_unwritten (store.Limit reached most) = Limit reached most
generate_unwritten (store.Schema line kind) = Memory
generate_unwritten (store.Line input line kind) = Memory
