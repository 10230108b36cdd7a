-- What the writing of a file from a script leaves of a host.
use Rattle.std.specs.Prelude.{◌≡◌, ◌⊎◌, ℕ, ◌-◌, ◌≤◌, List, [], ◌∷◌, ◌++◌, Some, Result, Ok, Err, IsErrOf}
use Rattle.nt_types.specs.ShapeData.{MemberData}
use Rattle.nt_types.specs.Schema.{schema_text, at_line}
use Rattle.nt_outside.specs.Faults.{Rose}
use Rattle.nt_outside.specs.Source.{SourceState}
use Rattle.nt_outside.specs.Order.{EndsInSync}
use Rattle.nt_outside.specs.World.{World, Out, HostState, file}
use Rattle.nt_book.specs.declared.params.Params.{Params}
use Rattle.nt_close.specs.Laws.{EndsOverFirst}
use Rattle.nt_store.specs.Stored.{asked_for}
use Rattle.nt_store.specs.Schemas.{AsksSchemaFirst}
use Rattle.nt_store.specs.Worlds.{IsThereWith, AsksFor, LeavesOut, KeepsFiles, OthersStay, MakesDisk, LeavesOpen, IsLeftByFailure}
use Rattle.nt_store.specs.Worlds.{IsLeftByMemory, WritesInOrder, IsLeftAfter}
use Rattle.nt_script.specs.declared.error.LineFault.{LineFault}
use Rattle.nt_script.specs.declared.storing.Counts.{Counts}
use Rattle.nt_script.specs.declared.store_error.ScriptStoreError.{ScriptStoreError}
use Rattle.nt_script.specs.declared.store_error.ScriptStoreError.TheVariants.{Outside, Memory, Schema, Line, Limit}
use Rattle.nt_script.specs.Script.{read_script}
use Rattle.nt_script.specs.Passing.{PassesLimit}
use Rattle.nt_script.specs.Whole.{clusters_of_text, IsScriptFile, line_of_clusters}
use Rattle.nt_script.specs.Crashes.{ScriptCrashTold}
use Rattle.nt_script.specs.Filing.{AreNumbersOf, IsBadAt}

-- a disk of this name was made, and its file is the whole one of a script
pub record MakesScriptFile (out : List ℕ) (p : Params) (fields : List MemberData) (text : List ℕ) (w w' : World) : Type 0 where
  pub made : MakesDisk out w w'
  pub bytes : List ℕ
  pub file_is : file w' out ≡ Some bytes
  pub whole : IsScriptFile p fields text bytes

-- what is left of the files once the disk is back, by the answer; nothing is printed yet
abbrev pub FilesTold : List ℕ → Params → List MemberData → List ℕ → World → World → Result Counts ScriptStoreError → Type 0
FilesTold out p fields text w w' (Ok counts) =
    MakesScriptFile out p fields text w w' × IsLeftAfter EndsInSync out w' × AreNumbersOf p fields text counts
FilesTold out p fields text w w' (Err Outside) =
    IsLeftByFailure out w w' ⊎ (MakesScriptFile out p fields text w w' × IsLeftAfter EndsOverFirst out w')
FilesTold out p fields text w w' (Err Memory) = IsLeftByMemory out w w'
FilesTold out p fields text w w' (Err (Line line kind)) =
    IsBadAt fields p text (record { line = line; kind = kind }) × LeavesOpen out w w'
FilesTold out p fields text w w' (Err (Limit reached most)) =
    PassesLimit fields p (read_script fields text) reached most × LeavesOpen out w w'
FilesTold out p fields text w w' (Err (Schema line kind)) = ⊥

-- a count of faults never falls, and it rose where the outside failed
pub record HasScriptCause {T : Type 0} (before now : ℕ) (result : Result T ScriptStoreError) : Type 0 where
  pub later : before ≤ now
  pub failed : IsErrOf result Outside → Rose before now

-- the file of these fields and an open text was written under a name, or not, and the text came back
pub record FilesText (out : List ℕ) (p : Params) (fields : List MemberData) (source : SourceState) (old new : HostState)
    (result : Result Counts ScriptStoreError) : Type 0 where
  pub told : (w : World) (text : List ℕ) → old.world ≡ Some w → source.left ≡ Some text
      → (w' : World) × (new.world ≡ Some w') × (w'.err ≡ w.err) × (w'.out ≡ w.out) × OthersStay out w w'
      × FilesTold out p fields text w w' result
  pub order : WritesInOrder out old.world new.world
  pub crash : (text : List ℕ) → source.left ≡ Some text
      → ScriptCrashTold (λ w. IsScriptFile p fields text) out old.world new.world result
  pub asked : AsksFor (Out out ∷ []) old.asked new.asked result
  pub cause : HasScriptCause old.faults new.faults result
  pub err_faults : new.err_faults ≡ old.err_faults
  pub opened : new.opened ≡ old.opened - 1

-- a host has a schema text of these fields, and this text under the name of the script
pub record AreScriptTexts (w : World) (schema input : List ℕ) (fields : List MemberData) (text : List ℕ) : Type 0 where
  pub schema_is : IsThereWith (λ t. schema_text t ≡ Ok fields) (file w schema)
  pub script_is : file w input ≡ Some text

-- the file is the whole one of the script, and out gained this of the line of its numbers
pub record StoresWholeScript (out schema input : List ℕ) (p : Params) (w w' : World) (printed behind : List ℕ) : Type 0 where
  pub fields : List MemberData
  pub text : List ℕ
  pub are : AreScriptTexts w schema input fields text
  pub file : MakesScriptFile out p fields text w w'
  pub line : line_of_clusters (clusters_of_text p fields text) ≡ printed ++ behind
  pub gained : w'.out ≡ w.out ++ printed

-- these bytes are the whole file of a host's script
pub record IsWholeScript (schema input : List ℕ) (p : Params) (w : World) (bytes : List ℕ) : Type 0 where
  pub fields : List MemberData
  pub text : List ℕ
  pub are : AreScriptTexts w schema input fields text
  pub whole : IsScriptFile p fields text bytes

-- the script has this first bad line, and what is written in front of it passes no limit
pub record HasBadScript (schema input : List ℕ) (p : Params) (w : World) (line : ℕ) (kind : LineFault) : Type 0 where
  pub fields : List MemberData
  pub text : List ℕ
  pub are : AreScriptTexts w schema input fields text
  pub bad : IsBadAt fields p text (record { line = line; kind = kind })

-- the script passes this limit, no line before which is bad
pub record IsTooLargeScript (schema input : List ℕ) (p : Params) (w : World) (reached limit : ℕ) : Type 0 where
  pub fields : List MemberData
  pub text : List ℕ
  pub are : AreScriptTexts w schema input fields text
  pub over : PassesLimit fields p (read_script fields text) reached limit

-- what is left, by the answer. Where the outside failed and the file is whole nevertheless, either the last step was that of its first
-- byte, which failed or was followed by a failed sync, and nothing was printed; or the file was closed, and the line of its numbers
-- wasn't printed whole
abbrev pub ScriptTold : List ℕ → List ℕ → List ℕ → Params → World → World → Result Unit ScriptStoreError → Type 0
ScriptTold out schema input p w w' (Ok done) = (line : List ℕ) × StoresWholeScript out schema input p w w' line []
ScriptTold out schema input p w w' (Err Outside) =
    (IsLeftByFailure out w w' × (w'.out ≡ w.out))
    ⊎ (((line : List ℕ) × StoresWholeScript out schema input p w w' [] line × IsLeftAfter EndsOverFirst out w')
    ⊎ ((printed behind : List ℕ) × StoresWholeScript out schema input p w w' printed behind × IsLeftAfter EndsInSync out w'))
ScriptTold out schema input p w w' (Err Memory) = IsLeftByMemory out w w' × (w'.out ≡ w.out)
ScriptTold out schema input p w w' (Err (Schema line kind)) =
    IsThereWith (λ text. schema_text text ≡ Err (at_line line kind)) (file w schema) × KeepsFiles w w' × (w'.out ≡ w.out)
ScriptTold out schema input p w w' (Err (Line line kind)) = HasBadScript schema input p w line kind × LeavesOpen out w w' ×
    (w'.out ≡ w.out)
ScriptTold out schema input p w w' (Err (Limit reached limit)) = IsTooLargeScript schema input p w reached limit × LeavesOpen out w w' ×
    (w'.out ≡ w.out)

-- a file is written from a script, or why not
pub record StoresScript (out schema input : List ℕ) (p : Params) (old new : HostState) (result : Result Unit ScriptStoreError) :
    Type 0 where
  -- where the host tells what it holds
  pub told : (w : World) → old.world ≡ Some w
      → (w' : World) × (new.world ≡ Some w') × (w'.err ≡ w.err) × OthersStay out w w' × ScriptTold out schema input p w w' result
  -- where the file was begun, its first byte came only when all the rest stayed
  pub order : WritesInOrder out old.world new.world
  -- and a crash leaves it unfinished or whole
  pub crash : ScriptCrashTold (IsWholeScript schema input p) out old.world new.world result
  pub asked : AsksFor (asked_for out schema (input ∷ [])) old.asked new.asked result
  pub schema_first : AsksSchemaFirst schema old new
  pub cause : HasScriptCause old.faults new.faults result
  -- each object that was opened came back
  pub back : LeavesOut 0 old new
