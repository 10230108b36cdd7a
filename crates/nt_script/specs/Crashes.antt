-- What a crash leaves of a file that is written from a script, wherever it cuts the steps off.
use Rattle.std.specs.Prelude.{◌≡◌, ℕ, List, Option, Some, Result, Ok, Err}
use Rattle.nt_outside.specs.Log.{Step}
use Rattle.nt_outside.specs.World.{World, Stored, stored}
use Rattle.nt_cuts.specs.Cuts.{LeavesUnfinished, LeavesUnfinishedOr, LeavesOnly}
use Rattle.nt_store.specs.Worlds.{MakesDisk}
use Rattle.nt_script.specs.declared.store_error.ScriptStoreError.{ScriptStoreError}
use Rattle.nt_script.specs.declared.store_error.ScriptStoreError.TheVariants.{Outside, Memory, Schema, Line, Limit}

-- behind the first sync what is unfinished is left; the whole only once the first byte is written over; behind all steps of Ok just that
abbrev pub ScriptCrash : {T : Type 0} → (List ℕ → Type 0) → List Step → Result T ScriptStoreError → Type 0
ScriptCrash Whole log (Ok done) = LeavesUnfinishedOr Whole log × LeavesOnly Whole log
ScriptCrash Whole log (Err Outside) = LeavesUnfinishedOr Whole log
ScriptCrash Whole log (Err Memory) = LeavesUnfinished log
ScriptCrash Whole log (Err (Schema line kind)) = LeavesUnfinished log
ScriptCrash Whole log (Err (Line line kind)) = LeavesUnfinished log
ScriptCrash Whole log (Err (Limit reached limit)) = LeavesUnfinished log

-- the file of this name was written by a disk that told its steps, and this is what a crash at any of them leaves
pub record LeavesScript {T : Type 0} (Whole : List ℕ → Type 0) (name : List ℕ) (w' : World) (result : Result T ScriptStoreError) : Type 0
  where
    pub at : Stored
    pub log : List Step
    pub there : stored w' name ≡ Some at
    pub steps : at.log ≡ Some log
    pub leaves : ScriptCrash Whole log result

-- the same, where a disk of this name was made
abbrev pub ScriptCrashTold : {T : Type 0} → (World → List ℕ → Type 0) → List ℕ → Option World → Option World → Result T ScriptStoreError
    → Type 0
ScriptCrashTold Whole name old new result =
    (w w' : World) → old ≡ Some w → new ≡ Some w' → MakesDisk name w w' → LeavesScript (Whole w) name w' result
