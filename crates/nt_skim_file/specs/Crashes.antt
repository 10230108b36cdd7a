-- What a crash leaves of the file of selected entries, wherever it cuts the steps off.
use Rattle.std.specs.Prelude.{◌≡◌, ℕ, List, Option, Some, Result, Ok, Err}
use Rattle.nt_outside.specs.Log.{Step}
use Rattle.nt_outside.specs.World.{World, Stored, stored}
use Rattle.nt_cuts.specs.Cuts.{LeavesUnfinished, LeavesUnfinishedOr, LeavesOnly}
use Rattle.nt_store.specs.Worlds.{MakesDisk}
use Rattle.nt_skim_file.specs.declared.error.SkimStoreError.{SkimStoreError}
use Rattle.nt_skim_file.specs.declared.error.SkimStoreError.TheVariants.{Outside, Memory, Defect, Unplanned, Limit}

-- behind the first sync what is unfinished is left; the whole only once the first byte is written over; behind all steps of Ok just that
abbrev pub SkimCrash : {T : Type 0} → (List ℕ → Type 0) → List Step → Result T SkimStoreError → Type 0
SkimCrash Whole log (Ok done) = LeavesUnfinishedOr Whole log × LeavesOnly Whole log
SkimCrash Whole log (Err Outside) = LeavesUnfinishedOr Whole log
SkimCrash Whole log (Err Memory) = LeavesUnfinished log
SkimCrash Whole log (Err (Defect e)) = LeavesUnfinished log
SkimCrash Whole log (Err (Unplanned e)) = LeavesUnfinished log
SkimCrash Whole log (Err (Limit reached limit)) = LeavesUnfinished log

-- the file of this name was written by a disk that told its steps, and this is what a crash at any of them leaves
pub record LeavesSkim {T : Type 0} (Whole : List ℕ → Type 0) (name : List ℕ) (w' : World) (result : Result T SkimStoreError) : Type 0
  where
    pub at : Stored
    pub log : List Step
    pub there : stored w' name ≡ Some at
    pub steps : at.log ≡ Some log
    pub leaves : SkimCrash Whole log result

-- the same, where a disk of this name was made
abbrev pub SkimCrashTold : {T : Type 0} → (World → List ℕ → Type 0) → List ℕ → Option World → Option World → Result T SkimStoreError
    → Type 0
SkimCrashTold Whole name old new result =
    (w w' : World) → old ≡ Some w → new ≡ Some w' → MakesDisk name w w' → LeavesSkim (Whole w) name w' result
