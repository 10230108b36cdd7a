-- Refusals of others, as reasons why a file isn't written.
use Rattle.nt_outside.specs.declared.fault.Refused.{Refused}
use Rattle.nt_outside.specs.declared.fault.Refused.TheVariants as refused
use Rattle.nt_types.specs.declared.fault.SchemaError.{SchemaError}
use Rattle.nt_types.specs.declared.fault.SchemaError.TheVariants as schema
use Rattle.nt_close.specs.declared.error.BeginError.{BeginError}
use Rattle.nt_close.specs.declared.error.BeginError.TheVariants as begin
use Rattle.nt_close.specs.declared.error.CloseError.{CloseError}
use Rattle.nt_close.specs.declared.error.CloseError.TheVariants as close
use Rattle.nt_contexts.specs.declared.error.RunError.{RunError}
use Rattle.nt_contexts.specs.declared.error.RunError.TheVariants as run
use Rattle.nt_store.specs.declared.error.StoreError.{StoreError}
use Rattle.nt_store.specs.declared.error.StoreError.TheVariants.{Outside, Memory, Schema, Line, Limit}

-- a refusal of the outside
abbrev pub error_of_refusal : Refused → StoreError
error_of_refusal refused.Failed = Outside
error_of_refusal refused.Memory = Memory

-- a schema text without fields
abbrev pub error_of_schema : SchemaError → StoreError
error_of_schema (schema.Fault fault) = Schema fault.line fault.kind
error_of_schema schema.Memory = Memory

-- a file that isn't begun
abbrev pub error_of_begin : BeginError → StoreError
error_of_begin begin.Memory = Memory
error_of_begin (begin.RangeTooLarge len most) = Limit len most
error_of_begin (begin.FileTooLarge end most) = Limit end most
error_of_begin begin.Fault = Outside

-- a file that isn't closed; that a range of it is spoiled or unpublished, or a page list torn, comes of a failure
abbrev pub error_of_close : CloseError → StoreError
error_of_close (close.Spoiled cluster faults) = Outside
error_of_close (close.Torn group faults) = Outside
error_of_close (close.Unpublished range) = Outside
error_of_close close.Memory = Memory
error_of_close (close.RangeTooLarge len most) = Limit len most
error_of_close (close.FileTooLarge end most) = Limit end most
error_of_close close.Fault = Outside

-- contexts that didn't write all
abbrev pub error_of_run : RunError → StoreError
error_of_run run.Outside = Outside
error_of_run run.Memory = Memory
error_of_run (run.Line input line kind) = Line input line kind
error_of_run (run.Limit reached most) = Limit reached most

-- the outside, or memory, refused
abbrev pub IsRefusal : StoreError → Type 0
IsRefusal Outside = Unit {0}
IsRefusal Memory = Unit {0}
IsRefusal (Schema line kind) = ⊥
IsRefusal (Line input line kind) = ⊥
IsRefusal (Limit reached limit) = ⊥
