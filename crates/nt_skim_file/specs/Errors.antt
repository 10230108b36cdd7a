-- Refusals of others, as reasons why a selection isn't stored.
use Rattle.std.specs.Prelude.{ℕ, ◌+◌}
use Rattle.nt_outside.specs.declared.fault.Refused.{Refused}
use Rattle.nt_outside.specs.declared.fault.Refused.TheVariants as refused
use Rattle.nt_commit.specs.declared.error.CommitError.{CommitError}
use Rattle.nt_commit.specs.declared.error.CommitError.TheVariants as commit
use Rattle.nt_close.specs.declared.error.BeginError.{BeginError}
use Rattle.nt_close.specs.declared.error.BeginError.TheVariants as begin
use Rattle.nt_close.specs.declared.error.CloseError.{CloseError}
use Rattle.nt_close.specs.declared.error.CloseError.TheVariants as close
use Rattle.nt_tfile.specs.declared.failure.ReadFailure.{ReadFailure}
use Rattle.nt_tfile.specs.declared.failure.ReadFailure.TheVariants as failure
use Rattle.nt_skim.specs.declared.error.PlanError.{PlanError}
use Rattle.nt_skim.specs.declared.error.PlanError.TheVariants as plan
use Rattle.nt_skim.specs.declared.error.SkimError.{SkimError}
use Rattle.nt_skim.specs.declared.error.SkimError.TheVariants as skim
use Rattle.nt_skim_file.specs.declared.error.SkimStoreError.{SkimStoreError}
use Rattle.nt_skim_file.specs.declared.error.SkimStoreError.TheVariants.{Outside, Memory, Defect, Unplanned, Limit}

-- a refusal of the outside
abbrev pub skim_refusal : Refused → SkimStoreError
skim_refusal refused.Failed = Outside
skim_refusal refused.Memory = Memory

-- a file that isn't read
abbrev pub skim_failure : ReadFailure → SkimStoreError
skim_failure (failure.Defect e) = Defect e
skim_failure failure.Fault = Outside
skim_failure failure.Memory = Memory

-- a plan that isn't made
abbrev pub skim_unplanned : PlanError → SkimStoreError
skim_unplanned (plan.UnknownField name) = Unplanned (plan.UnknownField name)
skim_unplanned (plan.Twice name) = Unplanned (plan.Twice name)
skim_unplanned (plan.NotWritable name) = Unplanned (plan.NotWritable name)
skim_unplanned (plan.NotANumber name) = Unplanned (plan.NotANumber name)
skim_unplanned plan.Memory = Memory

-- a file that isn't begun
abbrev pub skim_of_begin : BeginError → SkimStoreError
skim_of_begin begin.Memory = Memory
skim_of_begin (begin.RangeTooLarge len most) = Limit len most
skim_of_begin (begin.FileTooLarge end most) = Limit end most
skim_of_begin begin.Fault = Outside

-- a cluster that isn't written, where a file may have so many
abbrev pub skim_of_commit : ℕ → CommitError → SkimStoreError
skim_of_commit clusters (commit.RangeTooLarge len most) = Limit len most
skim_of_commit clusters (commit.FileTooLarge end most) = Limit end most
skim_of_commit clusters commit.TooManyClusters = Limit (clusters + 1) clusters
skim_of_commit clusters commit.Memory = Memory
skim_of_commit clusters commit.Fault = Outside

-- a selection that ended early
abbrev pub skim_of_early : ℕ → SkimError CommitError → SkimStoreError
skim_of_early clusters (skim.Defect e) = Defect e
skim_of_early clusters skim.Fault = Outside
skim_of_early clusters (skim.Sink e) = skim_of_commit clusters e
skim_of_early clusters skim.Memory = Memory

-- a file that isn't closed
abbrev pub skim_of_close : CloseError → SkimStoreError
skim_of_close (close.Spoiled cluster faults) = Outside
skim_of_close (close.Torn group faults) = Outside
skim_of_close (close.Unpublished range) = Outside
skim_of_close close.Memory = Memory
skim_of_close (close.RangeTooLarge len most) = Limit len most
skim_of_close (close.FileTooLarge end most) = Limit end most
skim_of_close close.Fault = Outside
