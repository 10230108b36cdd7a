-- Refusals of others, as reasons why the file of a script isn't written.
use Rattle.std.specs.Prelude.{ℕ, ◌+◌}
use Rattle.nt_outside.specs.declared.fault.Refused.{Refused}
use Rattle.nt_outside.specs.declared.fault.Refused.TheVariants as refused
use Rattle.nt_book.specs.declared.limits.LimitError.{LimitError}
use Rattle.nt_book.specs.declared.limits.LimitError.TheVariants as limit
use Rattle.nt_close.specs.declared.error.BeginError.{BeginError}
use Rattle.nt_close.specs.declared.error.BeginError.TheVariants as begin
use Rattle.nt_close.specs.declared.error.CloseError.{CloseError}
use Rattle.nt_close.specs.declared.error.CloseError.TheVariants as close
use Rattle.nt_store.specs.declared.error.StoreError.{StoreError}
use Rattle.nt_store.specs.declared.error.StoreError.TheVariants as store
use Rattle.nt_script.specs.declared.error.LineFault.TheVariants.{Event}
use Rattle.nt_script.specs.declared.error.ScriptError.{ScriptError}
use Rattle.nt_script.specs.declared.error.ScriptError.TheVariants as script
use Rattle.nt_script.specs.declared.store_error.ScriptStoreError.{ScriptStoreError}
use Rattle.nt_script.specs.declared.store_error.ScriptStoreError.TheVariants.{Outside, Memory, Schema, Line, Limit}

-- a refusal of the outside
abbrev pub script_error_of_refusal : Refused → ScriptStoreError
script_error_of_refusal refused.Failed = Outside
script_error_of_refusal refused.Memory = Memory

-- a schema text that wasn't read
abbrev pub script_error_of_store : StoreError → ScriptStoreError
script_error_of_store store.Outside = Outside
script_error_of_store store.Memory = Memory
script_error_of_store (store.Schema line kind) = Schema line kind
script_error_of_store (store.Line input line kind) = Line line (Event kind)
script_error_of_store (store.Limit reached most) = Limit reached most

-- a file that isn't begun
abbrev pub script_error_of_begin : BeginError → ScriptStoreError
script_error_of_begin begin.Memory = Memory
script_error_of_begin (begin.RangeTooLarge len most) = Limit len most
script_error_of_begin (begin.FileTooLarge end most) = Limit end most
script_error_of_begin begin.Fault = Outside

-- a file that isn't closed
abbrev pub script_error_of_close : CloseError → ScriptStoreError
script_error_of_close (close.Spoiled cluster faults) = Outside
script_error_of_close (close.Torn group faults) = Outside
script_error_of_close (close.Unpublished range) = Outside
script_error_of_close close.Memory = Memory
script_error_of_close (close.RangeTooLarge len most) = Limit len most
script_error_of_close (close.FileTooLarge end most) = Limit end most
script_error_of_close close.Fault = Outside

-- what was reached, and the limit, where a file may have so many clusters
abbrev pub limit_of_script : ℕ → LimitError → ScriptStoreError
limit_of_script clusters (limit.RangeTooLarge len most) = Limit len most
limit_of_script clusters (limit.FileTooLarge end most) = Limit end most
limit_of_script clusters limit.TooManyClusters = Limit (clusters + 1) clusters

-- a script that ended early
abbrev pub error_of_script : ℕ → ScriptError → ScriptStoreError
error_of_script clusters (script.Line line kind) = Line line kind
error_of_script clusters (script.Limit error) = limit_of_script clusters error
error_of_script clusters script.Outside = Outside
error_of_script clusters script.Memory = Memory
