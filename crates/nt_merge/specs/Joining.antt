-- What is left of all files that are copied into one, one behind the other.
use Rattle.std.specs.Prelude.{ℕ, ◌≡◌, ◌≤◌, List, length, slice_get, Some, Result, Ok, Err, IsErrOf, OnOk}
use Rattle.std.specs.List.{AllByRecursion}
use Rattle.nt_outside.specs.Faults.{Rose}
use Rattle.nt_outside.specs.File.{FileState}
use Rattle.nt_outside.specs.Disk.{DiskState}
use Rattle.nt_grammar.specs.Table.{Table}
use Rattle.nt_book.specs.declared.limits.LimitError.TheVariants as limit
use Rattle.nt_book.specs.declared.params.Params.{Params}
use Rattle.nt_book.specs.Books.{BookData}
use Rattle.nt_commit.specs.declared.error.CommitError.TheVariants as commit
use Rattle.nt_tfile.specs.declared.failure.ReadFailure.TheVariants as failure
use Rattle.nt_file_meaning.specs.Outlines.{Outline}
use Rattle.nt_close.specs.declared.error.BeginError.TheVariants as begin
use Rattle.nt_close.specs.Beginning.{IsBegunFor, IsNotBegunFor}
use Rattle.nt_close.specs.Closing.{IsClosable}
use Rattle.nt_close.specs.Damage.{IsUndamaged}
use Rattle.nt_schema.specs.Whole.{AreWhole}
use Rattle.nt_copied.specs.Copies.{NoneDeferred}
use Rattle.nt_merge.specs.declared.copy_error.CopyError.{CopyError}
use Rattle.nt_merge.specs.declared.copy_error.CopyError.TheVariants.{Read, Commit}
use Rattle.nt_merge.specs.declared.error.MergeError.{MergeError}
use Rattle.nt_merge.specs.declared.error.MergeError.TheVariants.{Defect, Schema, RangeTooLarge, FileTooLarge, TooManyClusters, ReadFault}
use Rattle.nt_merge.specs.declared.error.MergeError.TheVariants.{DiskFault, Memory}
use Rattle.nt_merge.specs.Copying.{IsJoinable, CopiesFile, CopyGoesOn, HasMerged}
use Rattle.nt_merge.specs.Files.{TellBytes, KeepFiles, OneRose}
use Rattle.nt_merge.specs.Merging.{Numbered, all_numbered, IsFirstMergeFault, IsFirstMergeLimit, IsMerging}
use Rattle.nt_merge.specs.Merging.{IsLeftUnfinished, MergesTold, merged_table}
use Rattle.nt_merge.specs.Planning.{error_of_read}

-- what a failure in copying the file of this number is to a merge
abbrev pub error_of_copy : ℕ → CopyError → MergeError
error_of_copy file (Read failure) = error_of_read file failure
error_of_copy file (Commit (commit.RangeTooLarge len most)) = RangeTooLarge len most
error_of_copy file (Commit (commit.FileTooLarge end most)) = FileTooLarge end most
error_of_copy file (Commit commit.TooManyClusters) = TooManyClusters
error_of_copy file (Commit commit.Memory) = Memory
error_of_copy file (Commit commit.Fault) = DiskFault

-- the clusters of each schema can be copied to a file of this one
abbrev pub AllCopyable : Table → List Outline → Type 0
AllCopyable t os = AllByRecursion (λ (o : Outline). IsJoinable t o.table) os

-- the schema that files of these outlines are merged under: a description holds it whole, and their clusters can be copied to its file
pub record IsMergeSchema (t : Table) (os : List Outline) : Type 0 where
  pub is : t ≡ merged_table os
  pub whole : AreWhole t
  pub none_deferred : NoneDeferred t.columns
  pub copyable : AllCopyable t os

module _ {F : Type 0} (state : F → FileState) where
  -- the file of this number is served, and the others are as they were
  pub record ServesCopyAt (at : ℕ) (files files' : List F) (old new : DiskState) (result : Result Unit CopyError) : Type 0 where
    pub kept : KeepFiles state files files'
    pub rose : IsErrOf result (Read failure.Fault) → OneRose state files files'
    pub disk : IsErrOf result (Commit commit.Fault) → Rose old.faults new.faults
    pub later : OnOk result (old.faults ≤ new.faults)

  -- its clusters are copied
  pub record CopiesAt (at : ℕ) (files : List F) (os : List Outline) (old new : DiskState) (book book' : BookData)
      (result : Result Unit CopyError) : Type 0 where
    pub going : (t : Table) (p : Params) (given : DiskState) (o : Outline) → slice_get os at ≡ Some o → IsJoinable t o.table
        → IsMerging t p given old book → CopyGoesOn t p given new book' result
    pub told : (f : F) (o : Outline) → slice_get files at ≡ Some f → slice_get os at ≡ Some o
        → CopiesFile (state f).bytes o old new book book' result

  -- each file keeps its bytes; a file is blamed only where the count of one of them rose, and the disk only where its own did
  pub record ServesMerge {A : Type 0} (files files' : List F) (old new : DiskState) (result : Result A MergeError) : Type 0 where
    pub kept : KeepFiles state files files'
    pub rose : IsErrOf result ReadFault → OneRose state files files'
    pub disk : IsErrOf result DiskFault → Rose old.faults new.faults
    pub later : OnOk result (old.faults ≤ new.faults)

-- what is told of all clusters of some files, by the answer
abbrev pub ToldOfAll : Table → Params → DiskState → DiskState → BookData → List Numbered → Result Unit MergeError → Type 0
ToldOfAll t p given new book ns (Ok done) = HasMerged t p given new book ns (length ns)
ToldOfAll t p given new book ns (Err (Defect file e)) = IsFirstMergeFault t p ns file e
ToldOfAll t p given new book ns (Err (Schema place)) = ⊥
ToldOfAll t p given new book ns (Err (RangeTooLarge len most)) = IsFirstMergeLimit t p ns (limit.RangeTooLarge len most)
ToldOfAll t p given new book ns (Err (FileTooLarge end most)) = IsFirstMergeLimit t p ns (limit.FileTooLarge end most)
ToldOfAll t p given new book ns (Err TooManyClusters) = IsFirstMergeLimit t p ns limit.TooManyClusters
ToldOfAll t p given new book ns (Err ReadFault) = Unit {0}
ToldOfAll t p given new book ns (Err DiskFault) = Unit {0}
ToldOfAll t p given new book ns (Err Memory) = Unit {0}

-- the file that they are copied into can go on, or isn't finished
abbrev pub MergeGoesOn : Table → Params → DiskState → DiskState → BookData → Result Unit MergeError → Type 0
MergeGoesOn t p given new book (Ok done) = IsMerging t p given new book
MergeGoesOn t p given new book (Err e) = IsLeftUnfinished given new

-- where the files tell their bytes, all their clusters go on behind each other
abbrev pub CopiesFiles : {F : Type 0} → (F → FileState) → List F → List Outline → DiskState → DiskState → BookData → BookData
    → Result Unit MergeError → Type 0
CopiesFiles state files os old new book book' result =
    (t : Table) (p : Params) (given : DiskState) (bytes : List (List ℕ)) → TellBytes state files bytes → AllCopyable t os
    → IsMerging t p given old book → HasMerged t p given old book (all_numbered 0 bytes os) 0
    → ToldOfAll t p given new book' (all_numbered 0 bytes os) result

-- ---- the beginning and the end

-- a file of this schema is begun, with a book without clusters
pub record BeginsTarget (t : Table) (p : Params) (old new : DiskState) (book : BookData) (columns : ℕ) : Type 0 where
  pub begun : IsBegunFor t p old new book
  pub columns_are : columns ≡ length t.columns

-- why it isn't begun, and what is left then
abbrev pub RefusesTarget : Table → Params → DiskState → DiskState → MergeError → Type 0
RefusesTarget t p old new (Defect file e) = ⊥
RefusesTarget t p old new (Schema place) = ⊥
RefusesTarget t p old new (RangeTooLarge len most) = IsNotBegunFor t p old new (begin.RangeTooLarge len most)
RefusesTarget t p old new (FileTooLarge end most) = IsNotBegunFor t p old new (begin.FileTooLarge end most)
RefusesTarget t p old new TooManyClusters = ⊥
RefusesTarget t p old new ReadFault = ⊥
RefusesTarget t p old new DiskFault = IsNotBegunFor t p old new begin.Fault
RefusesTarget t p old new Memory = IsNotBegunFor t p old new begin.Memory

-- a file of copies can be closed: none of its ranges is spoiled, and no page list failed
pub record IsClosableCopy (t : Table) (p : Params) (disk : DiskState) (book : BookData) : Type 0 where
  pub closable : IsClosable disk book t p
  pub undamaged : IsUndamaged book

-- a disk is blamed only where its count rose
pub record ServesClose (old new : DiskState) (result : Result (ℕ × ℕ) MergeError) : Type 0 where
  pub fault : IsErrOf result DiskFault → Rose old.faults new.faults
  pub no_other : IsErrOf result ReadFault → ⊥
  pub later : OnOk result (old.faults ≤ new.faults)

-- what a close leaves of a file in which all of these clusters stand
abbrev pub ClosesMerge : Table → Params → DiskState → DiskState → DiskState → BookData → Result (ℕ × ℕ) MergeError → Type 0
ClosesMerge t p given old new book result =
    (ns : List Numbered) → HasMerged t p given old book ns (length ns) → MergesTold t p ns given new result
