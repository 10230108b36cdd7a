-- What is read of files before they are merged: the outline of each, or what stands against it first.
use Rattle.std.specs.Prelude.{ℕ, ◌≡◌, ◌+◌, ◌<◌, ◌^◌, length, List, [], ◌∷◌, map, Some, None, Result, Ok, Err, Vec, IsErrOf}
use Rattle.std.specs.declared.alloc.Global.{Global}
use Rattle.nt_lists.specs.Chaining.{◌>>=◌}
use Rattle.nt_num.specs.declared.fault.ReadError.{ReadError}
use Rattle.nt_outside.specs.File.{FileState}
use Rattle.nt_grammar.specs.Table.{Table}
use Rattle.nt_file_meaning.specs.Outlines.{Outline, outline_of}
use Rattle.nt_tfile.specs.declared.failure.ReadFailure.{ReadFailure}
use Rattle.nt_tfile.specs.declared.failure.ReadFailure.TheVariants as failure
use Rattle.nt_merge.specs.Comparing.{schema_error}
use Rattle.nt_merge.specs.Files.{OneRose}
use Rattle.nt_merge.specs.declared.error.MergeError.{MergeError}
use Rattle.nt_merge.specs.declared.error.MergeError.TheVariants.{Defect, Schema, RangeTooLarge, FileTooLarge, TooManyClusters, ReadFault}
use Rattle.nt_merge.specs.declared.error.MergeError.TheVariants.{DiskFault, Memory}

-- what the file of this number gives, its fault with that number
abbrev pub of_file : {A : Type 0} → ℕ → Result A ReadError → Result A (ℕ × ReadError)
of_file file (Ok x) = Ok x
of_file file (Err e) = Err (file, e)

-- the outlines of files whose numbers go on from this one, or the first fault of the first that has none
abbrev pub outlines_from : ℕ → List (List ℕ) → Result (List Outline) (ℕ × ReadError)
outlines_from file [] = Ok []
outlines_from file (b ∷ bs) = of_file file (outline_of b) >>= λ first. outlines_from (file + 1) bs >>= λ others. Ok (first ∷ others)

-- the schemas of outlines
abbrev pub tables_of : List Outline → List Table
tables_of os = map (λ (o : Outline). o.table) os

-- outlines of some files, whose schemas are alike
pub record IsPlan (os : List Outline) : Type 0 where
  pub some : 0 < length os
  pub few : length os < 2 ^ 32
  pub alike : schema_error (tables_of os) ≡ None

-- files have these outlines, and their schemas are alike
pub record ArePlanned (bytes : List (List ℕ)) (os : List Outline) : Type 0 where
  pub outlines : outlines_from 0 bytes ≡ Ok os
  pub alike : schema_error (tables_of os) ≡ None

-- why files with these bytes can't be merged: the first fault of one of them, or their schemas
abbrev pub IsPlanError : List (List ℕ) → MergeError → Type 0
IsPlanError bytes (Defect file e) = outlines_from 0 bytes ≡ Err (file, e)
IsPlanError bytes (Schema place) = (os : List Outline) × (outlines_from 0 bytes ≡ Ok os) × (schema_error (tables_of os) ≡ Some place)
IsPlanError bytes (RangeTooLarge len most) = ⊥
IsPlanError bytes (FileTooLarge end most) = ⊥
IsPlanError bytes TooManyClusters = ⊥
IsPlanError bytes ReadFault = Unit {0}
IsPlanError bytes DiskFault = ⊥
IsPlanError bytes Memory = Unit {0}

-- a file is blamed only where the count of one of them rose, and no disk is
pub record BlamesFiles {F A : Type 0} (state : F → FileState) (files files' : List F) (result : Result A MergeError) : Type 0 where
  pub rose : IsErrOf result ReadFault → OneRose state files files'
  pub no_disk : IsErrOf result DiskFault → ⊥

-- what attaching to all files answers: their outlines, or the first fault
abbrev pub AreAttached : List (List ℕ) → Result (Vec Outline Global) MergeError → Type 0
AreAttached bytes (Ok readers) = outlines_from 0 bytes ≡ Ok readers.items
AreAttached bytes (Err (Defect file e)) = outlines_from 0 bytes ≡ Err (file, e)
AreAttached bytes (Err (Schema place)) = ⊥
AreAttached bytes (Err (RangeTooLarge len most)) = ⊥
AreAttached bytes (Err (FileTooLarge end most)) = ⊥
AreAttached bytes (Err TooManyClusters) = ⊥
AreAttached bytes (Err ReadFault) = Unit {0}
AreAttached bytes (Err DiskFault) = ⊥
AreAttached bytes (Err Memory) = Unit {0}

-- what a failure in reading the file of this number is to a merge
abbrev pub error_of_read : ℕ → ReadFailure → MergeError
error_of_read number (failure.Defect e) = Defect number e
error_of_read number failure.Fault = ReadFault
error_of_read number failure.Memory = Memory
