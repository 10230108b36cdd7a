-- What a command `write` does to a host, by its answer.
use Rattle.std.specs.Prelude.{◌≡◌, ◌⊎◌, ℕ, List, Some, None, Result, Ok, Err}
use Rattle.nt_types.specs.ShapeData.{MemberData}
use Rattle.nt_types.specs.Schema.{schema_text, at_line}
use Rattle.nt_types.specs.declared.fault.SchemaKind.{SchemaKind}
use Rattle.nt_event.specs.declared.fault.TextKind.{TextKind}
use Rattle.nt_grammar.specs.Table.{Table}
use Rattle.nt_grammar.specs.Rows.{Rows}
use Rattle.nt_outside.specs.Faults.{Rose}
use Rattle.nt_outside.specs.World.{World, HostState, file}
use Rattle.nt_book.specs.declared.params.Params.{Params}
use Rattle.nt_dealing.specs.Texts.{AreSound, IsFirstBad, all_chunks}
use Rattle.nt_dealing.specs.Limits.{WholeFits}
use Rattle.nt_store.specs.declared.error.StoreError.{StoreError}
use Rattle.nt_store.specs.declared.error.StoreError.TheVariants as store
use Rattle.nt_store.specs.Worlds.{IsThereWith, AsksFor, OthersStay, WritesInOrder}
use Rattle.nt_store.specs.Texts.{AreTexts}
use Rattle.nt_store.specs.Schemas.{AsksSchemaFirst}
use Rattle.nt_store.specs.Crashes.{CrashTold}
use Rattle.nt_store.specs.Stored.{StoreTold, Stores, asked_for}
use Rattle.nt_app.specs.declared.status.Status.{Status}
use Rattle.nt_app.specs.declared.status.Status.TheVariants as status
use Rattle.nt_app.specs.declared.status.TextFault.TheVariants as fault
use Rattle.nt_app.specs.Statuses.{message_of}
use Rattle.nt_app.specs.Reports.{SaysOnErr, Served}

-- the answer of a file that was written, or of what came in place of that
abbrev pub status_of_store : Result Unit StoreError → Status
status_of_store (Ok done) = status.Done
status_of_store (Err store.Outside) = status.Outside
status_of_store (Err store.Memory) = status.Memory
status_of_store (Err (store.Schema line kind)) = status.Text None line (fault.Schema kind)
status_of_store (Err (store.Line input line kind)) = status.Text (Some input) line (fault.Line kind)
status_of_store (Err (store.Limit reached limit)) = status.Limit reached limit

-- the command before its message is printed
pub record WritesNamed (out schema : List ℕ) (inputs : List (List ℕ)) (p : Params) (old new : HostState) (answer : Status) : Type 0 where
  pub stored : Result Unit StoreError
  pub answer_is : answer ≡ status_of_store stored
  pub stores : Stores out schema inputs p old new stored

-- the whole file of the chunks of these texts fits, by the rows of these fields
abbrev pub FitsLimits : List MemberData → List (List ℕ) → Params → Type 0
FitsLimits fields texts p = (t : Table) → Rows fields p.plain t → WholeFits t p (all_chunks p.cluster fields texts)

-- which answer it is, by what the texts are, where the outside serves: this one, unless memory runs out
pub record AnswersTexts (schema : List ℕ) (inputs : List (List ℕ)) (p : Params) (w : World) (answer : Status) : Type 0 where
  -- the file is whole where no text has a fault and no limit is passed
  pub complete : (fields : List MemberData) (texts : List (List ℕ)) → AreTexts w schema inputs fields texts → AreSound fields texts
      → FitsLimits fields texts p → (answer ≡ status.Done) ⊎ (answer ≡ status.Memory)
  -- the schema text's first fault is told
  pub refused : (line : ℕ) (kind : SchemaKind) → IsThereWith (λ text. schema_text text ≡ Err (at_line line kind)) (file w schema)
      → (answer ≡ status.Text None line (fault.Schema kind)) ⊎ (answer ≡ status.Memory)
  -- so is the first bad line of the lowest input that has one, where no limit is passed before it
  pub faulty : (fields : List MemberData) (texts : List (List ℕ)) (input line : ℕ) (kind : TextKind) → AreTexts w schema inputs fields texts
      → IsFirstBad fields texts input line kind → FitsLimits fields texts p
      → (answer ≡ status.Text (Some input) line (fault.Line kind)) ⊎ (answer ≡ status.Memory)

-- the words were `write .. OUT SCHEMA IN..`; where `--staged` stands in them, and so in p, the clusters of each input stand together in OUT
pub record RunsWrite (out schema : List ℕ) (inputs : List (List ℕ)) (p : Params) (old new : HostState) (answer : Status) : Type 0 where
  -- how it ended, which the answer tells
  pub stored : Result Unit StoreError
  pub answer_is : answer ≡ status_of_store stored
  -- where the host tells what it holds
  pub told : (w : World) → old.world ≡ Some w → (w' : World) × (new.world ≡ Some w') × SaysOnErr (message_of answer) old new w w'
      × OthersStay out w w' × StoreTold out schema inputs p w w' stored
  -- where the file was begun, its first byte came only when all the rest stayed
  pub order : WritesInOrder out old.world new.world
  -- and wherever a crash comes behind the first sync, it leaves a file that is refused as unfinished, or the whole one
  pub crash : CrashTold out schema inputs p old.world new.world stored
  -- what was asked for: all names where the file is whole, and else the first of them
  pub asked : AsksFor (asked_for out schema inputs) old.asked new.asked stored
  -- and only the schema text, where it isn't there or isn't one
  pub schema_first : AsksSchemaFirst schema old new
  -- the outside is blamed only where it failed
  pub failed : answer ≡ status.Outside → Rose old.faults new.faults
  -- each object that was opened came back
  pub opened : new.opened ≡ old.opened
  -- where the outside serves, the texts say which answer it is
  pub served : (w : World) → old.world ≡ Some w → Served old new → AnswersTexts schema inputs p w answer
