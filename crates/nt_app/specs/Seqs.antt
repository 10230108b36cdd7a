-- What a command `seq` does to a host, by its answer.
use Rattle.std.specs.Prelude.{◌≡◌, ◌⊎◌, ℕ, List, [], ◌∷◌, Some, None, Result, Ok, Err}
use Rattle.nt_types.specs.ShapeData.{MemberData}
use Rattle.nt_types.specs.Schema.{schema_text, at_line}
use Rattle.nt_types.specs.declared.fault.SchemaKind.{SchemaKind}
use Rattle.nt_grammar.specs.Rows.{Rows}
use Rattle.nt_grammar.specs.Table.{Table}
use Rattle.nt_outside.specs.Faults.{Rose}
use Rattle.nt_outside.specs.World.{World, HostState, file}
use Rattle.nt_book.specs.declared.params.Params.{Params}
use Rattle.nt_store.specs.Worlds.{IsThereWith, AsksFor, OthersStay, WritesInOrder}
use Rattle.nt_store.specs.Stored.{asked_for}
use Rattle.nt_store.specs.Schemas.{AsksSchemaFirst}
use Rattle.nt_script.specs.declared.error.LineFault.{LineFault}
use Rattle.nt_script.specs.declared.error.LineFault.TheVariants.{Event, Field}
use Rattle.nt_script.specs.declared.store_error.ScriptStoreError.{ScriptStoreError}
use Rattle.nt_script.specs.declared.store_error.ScriptStoreError.TheVariants as script
use Rattle.nt_script.specs.Script.{read_script}
use Rattle.nt_script.specs.Clusters.{bad_line, GrowsByScript}
use Rattle.nt_script.specs.Fitting.{FitsWhole, MayFit, WholePasses}
use Rattle.nt_script.specs.Crashes.{ScriptCrashTold}
use Rattle.nt_script.specs.Storing.{AreScriptTexts, IsWholeScript, ScriptTold, StoresScript}
use Rattle.nt_app.specs.declared.status.Status.{Status}
use Rattle.nt_app.specs.declared.status.Status.TheVariants as status
use Rattle.nt_app.specs.declared.status.TextFault.{TextFault}
use Rattle.nt_app.specs.declared.status.TextFault.TheVariants as fault
use Rattle.nt_app.specs.Statuses.{message_of}
use Rattle.nt_app.specs.Reports.{SaysOnErr, Served}

-- what is wrong with a line of a script
abbrev pub fault_of_line : LineFault → TextFault
fault_of_line (Event kind) = fault.Line kind
fault_of_line (Field kind) = fault.Schema kind

-- the answer of a file that was written from a script, or of what came in place of that
abbrev pub status_of_script : Result Unit ScriptStoreError → Status
status_of_script (Ok done) = status.Done
status_of_script (Err script.Outside) = status.Outside
status_of_script (Err script.Memory) = status.Memory
status_of_script (Err (script.Schema line kind)) = status.Text None line (fault.Schema kind)
status_of_script (Err (script.Line line kind)) = status.Text (Some 0) line (fault_of_line kind)
status_of_script (Err (script.Limit reached limit)) = status.Limit reached limit

-- the command before its message is printed
pub record SeqNamed (out schema input : List ℕ) (p : Params) (old new : HostState) (answer : Status) : Type 0 where
  pub stored : Result Unit ScriptStoreError
  pub answer_is : answer ≡ status_of_script stored
  pub stores : StoresScript out schema input p old new stored

-- the whole file of a host's script passes this limit, whatever table its fields make, and so it doesn't fit
pub record ScriptPasses (schema input : List ℕ) (p : Params) (w : World) (reached limit : ℕ) : Type 0 where
  pub fields : List MemberData
  pub text : List ℕ
  pub are : AreScriptTexts w schema input fields text
  pub first : Table
  pub rows : Rows fields p.plain first
  pub over : (table : Table) → GrowsByScript p.plain first 0 (read_script fields text) table
      → WholePasses first table p (read_script fields text) reached limit
  pub beyond : FitsWhole fields p (read_script fields text) → ⊥

-- which answer it is, by what the texts are, where the outside serves: this one, unless memory runs out
pub record AnswersScript (schema input : List ℕ) (p : Params) (w : World) (answer : Status) : Type 0 where
  -- the file is whole where no line of the script is bad and no limit is passed
  pub complete : (fields : List MemberData) (text : List ℕ) → AreScriptTexts w schema input fields text
      → bad_line (read_script fields text) ≡ None → FitsWhole fields p (read_script fields text)
      → (answer ≡ status.Done) ⊎ (answer ≡ status.Memory)
  -- a limit is told where no line is bad, and the whole file can't be within the limits
  pub limited : (fields : List MemberData) (text : List ℕ) → AreScriptTexts w schema input fields text
      → bad_line (read_script fields text) ≡ None → (MayFit fields p (read_script fields text) → ⊥)
      → ((reached limit : ℕ) × (answer ≡ status.Limit reached limit)) ⊎ (answer ≡ status.Memory)
  -- the schema text's first fault is told
  pub refused : (line : ℕ) (kind : SchemaKind) → IsThereWith (λ text. schema_text text ≡ Err (at_line line kind)) (file w schema)
      → (answer ≡ status.Text None line (fault.Schema kind)) ⊎ (answer ≡ status.Memory)
  -- so is the first bad line of the script, where no limit is passed before it
  pub faulty : (fields : List MemberData) (text : List ℕ) (line : ℕ) (kind : LineFault) → AreScriptTexts w schema input fields text
      → bad_line (read_script fields text) ≡ Some (record { line = line; kind = kind }) → FitsWhole fields p (read_script fields text)
      → (answer ≡ status.Text (Some 0) line (fault_of_line kind)) ⊎ (answer ≡ status.Memory)

-- the words were `seq .. OUT SCHEMA IN`
pub record RunsSeq (out schema input : List ℕ) (p : Params) (old new : HostState) (answer : Status) : Type 0 where
  -- how it ended, which the answer tells
  pub stored : Result Unit ScriptStoreError
  pub answer_is : answer ≡ status_of_script stored
  -- where the host tells what it holds
  pub told : (w : World) → old.world ≡ Some w → (w' : World) × (new.world ≡ Some w') × SaysOnErr (message_of answer) old new w w'
      × OthersStay out w w' × ScriptTold out schema input p w w' stored
  -- where the file was begun, its first byte came only when all the rest stayed
  pub order : WritesInOrder out old.world new.world
  -- and wherever a crash comes behind the first sync, it leaves a file that is refused as unfinished, or the whole one
  pub crash : ScriptCrashTold (IsWholeScript schema input p) out old.world new.world stored
  -- what was asked for: all names where the file is whole, and else the first of them
  pub asked : AsksFor (asked_for out schema (input ∷ [])) old.asked new.asked stored
  -- and only the schema text, where it isn't there or isn't one
  pub schema_first : AsksSchemaFirst schema old new
  -- the outside is blamed only where it failed
  pub failed : answer ≡ status.Outside → Rose old.faults new.faults
  -- each object that was opened came back
  pub opened : new.opened ≡ old.opened
  -- a limit that is told is one that the whole file of the script passes
  pub passed : (w : World) → old.world ≡ Some w → (reached limit : ℕ) → answer ≡ status.Limit reached limit
      → ScriptPasses schema input p w reached limit
  -- where the outside serves, the texts say which answer it is
  pub served : (w : World) → old.world ≡ Some w → Served old new → AnswersScript schema input p w answer
