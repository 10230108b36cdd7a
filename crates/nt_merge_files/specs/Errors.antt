-- Refusals of others, as reasons why files aren't merged over a host.
use Rattle.std.specs.Prelude.{ℕ, ◌+◌, ◌≤◌, Result, Ok, Err, IsErrOf}
use Rattle.nt_outside.specs.Faults.{Rose}
use Rattle.nt_outside.specs.declared.fault.Refused.{Refused}
use Rattle.nt_outside.specs.declared.fault.Refused.TheVariants as refused
use Rattle.nt_merge.specs.declared.error.MergeError.{MergeError}
use Rattle.nt_merge.specs.declared.error.MergeError.TheVariants as merge
use Rattle.nt_script.specs.declared.storing.Counts.{Counts}
use Rattle.nt_merge_files.specs.declared.error.MergeStoreError.{MergeStoreError}
use Rattle.nt_merge_files.specs.declared.error.MergeStoreError.TheVariants.{Outside, Memory, Defect, Schema, Limit}

-- a refusal of the outside
abbrev pub merge_refusal : Refused → MergeStoreError
merge_refusal refused.Failed = Outside
merge_refusal refused.Memory = Memory

-- files that aren't merged into one that may have so many clusters
abbrev pub error_of_merge : ℕ → MergeError → MergeStoreError
error_of_merge clusters (merge.Defect file e) = Defect file e
error_of_merge clusters (merge.Schema place) = Schema place
error_of_merge clusters (merge.RangeTooLarge len most) = Limit len most
error_of_merge clusters (merge.FileTooLarge end most) = Limit end most
error_of_merge clusters merge.TooManyClusters = Limit (clusters + 1) clusters
error_of_merge clusters merge.ReadFault = Outside
error_of_merge clusters merge.DiskFault = Outside
error_of_merge clusters merge.Memory = Memory

-- the answer of a merge, as that of a file that is written of others
abbrev pub counts_of_merge : ℕ → Result (ℕ × ℕ) MergeError → Result Counts MergeStoreError
counts_of_merge clusters (Ok (written, entries)) = Ok (record { clusters = written; entries = entries })
counts_of_merge clusters (Err e) = Err (error_of_merge clusters e)

-- a refusal of the outside, or want of memory
abbrev pub IsMergeRefusal : MergeStoreError → Type 0
IsMergeRefusal Outside = Unit {0}
IsMergeRefusal Memory = Unit {0}
IsMergeRefusal (Defect file e) = ⊥
IsMergeRefusal (Schema place) = ⊥
IsMergeRefusal (Limit reached limit) = ⊥

-- a count of faults never falls, and it rose where the outside failed
pub record HasOpeningCause {T : Type 0} (before now : ℕ) (result : Result T MergeStoreError) : Type 0 where
  pub later : before ≤ now
  pub failed : IsErrOf result Outside → Rose before now
