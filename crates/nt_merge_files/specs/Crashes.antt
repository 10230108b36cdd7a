-- What a crash leaves of the file that is written of others, wherever it cuts the steps off.
use Rattle.std.specs.Prelude.{◌≡◌, ℕ, List, Option, Some, Result, Ok, Err}
use Rattle.nt_outside.specs.Log.{Step}
use Rattle.nt_outside.specs.World.{World, Stored, stored}
use Rattle.nt_cuts.specs.Cuts.{LeavesUnfinished, LeavesUnfinishedOr, LeavesOnly}
use Rattle.nt_store.specs.Worlds.{MakesDisk}
use Rattle.nt_merge_files.specs.declared.error.MergeStoreError.{MergeStoreError}
use Rattle.nt_merge_files.specs.declared.error.MergeStoreError.TheVariants.{Outside, Memory, Defect, Schema, Limit}

-- behind the first sync what is unfinished is left; the whole only once the first byte is written over; behind all steps of Ok just that
abbrev pub MergeCrash : {T : Type 0} → (List ℕ → Type 0) → List Step → Result T MergeStoreError → Type 0
MergeCrash Whole log (Ok done) = LeavesUnfinishedOr Whole log × LeavesOnly Whole log
MergeCrash Whole log (Err Outside) = LeavesUnfinishedOr Whole log
MergeCrash Whole log (Err Memory) = LeavesUnfinished log
MergeCrash Whole log (Err (Defect file e)) = LeavesUnfinished log
MergeCrash Whole log (Err (Schema place)) = LeavesUnfinished log
MergeCrash Whole log (Err (Limit reached limit)) = LeavesUnfinished log

-- the file of this name was written by a disk that told its steps, and this is what a crash at any of them leaves
pub record LeavesMerge {T : Type 0} (Whole : List ℕ → Type 0) (name : List ℕ) (w' : World) (result : Result T MergeStoreError) : Type 0
  where
    pub at : Stored
    pub log : List Step
    pub there : stored w' name ≡ Some at
    pub steps : at.log ≡ Some log
    pub leaves : MergeCrash Whole log result

-- the same, where a disk of this name was made
abbrev pub MergeCrashTold : {T : Type 0} → (World → List ℕ → Type 0) → List ℕ → Option World → Option World → Result T MergeStoreError
    → Type 0
MergeCrashTold Whole name old new result =
    (w w' : World) → old ≡ Some w → new ≡ Some w' → MakesDisk name w w' → LeavesMerge (Whole w) name w' result
