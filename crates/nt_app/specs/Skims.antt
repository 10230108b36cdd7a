-- What a command `skim` does to a host, by its answer.
use Rattle.std.specs.Prelude.{◌≡◌, ◌⊎◌, ℕ, List, Option, Some, option_map, Result, Ok, Err}
use Rattle.nt_num.specs.declared.fault.ReadError.{ReadError}
use Rattle.nt_types.specs.ShapeData.{MemberData}
use Rattle.nt_types.specs.TreeData.{TreesData}
use Rattle.nt_grammar.specs.Rows.{Rows}
use Rattle.nt_grammar.specs.Table.{Table}
use Rattle.nt_outside.specs.Faults.{Rose}
use Rattle.nt_outside.specs.World.{World, HostState, file}
use Rattle.nt_book.specs.declared.params.Params.{Params}
use Rattle.nt_file_meaning.specs.Files.{HasDefect}
use Rattle.nt_file_meaning.specs.Outlines.{outline_of}
use Rattle.nt_store.specs.Worlds.{IsThereWith, AsksFor, OthersStay, WritesInOrder}
use Rattle.nt_script.specs.Fitting.{FitsWhole, WholePasses}
use Rattle.nt_skim.specs.declared.error.PlanError.{PlanError}
use Rattle.nt_skim.specs.declared.error.PlanError.TheVariants as plan
use Rattle.nt_skim.specs.Planning.{NameTest}
use Rattle.nt_skim.specs.Select.{Selection}
use Rattle.nt_skim_file.specs.declared.error.SkimStoreError.{SkimStoreError}
use Rattle.nt_skim_file.specs.declared.error.SkimStoreError.TheVariants as store
use Rattle.nt_skim_file.specs.Choosing.{SkimChoiceData, IsUnplanned, SelectsAll, SelectsBefore}
use Rattle.nt_skim_file.specs.Whole.{script_of, MayFitSelected}
use Rattle.nt_skim_file.specs.Crashes.{SkimCrashTold}
use Rattle.nt_skim_file.specs.Storing.{skim_asked, AsksPlanFirst, IsWholeSkimOf, SkimTold, StoresSelected}
use Rattle.nt_command_line.specs.SkimWords.{SaidTest}
use Rattle.nt_app.specs.declared.status.SchemaPlace.TheVariants as unmet
use Rattle.nt_app.specs.declared.status.Status.{Status}
use Rattle.nt_app.specs.declared.status.Status.TheVariants as status
use Rattle.nt_app.specs.Statuses.{message_of}
use Rattle.nt_app.specs.Reports.{SaysOnErr, Served}

-- the test that words say, as one of a schema
abbrev pub name_test : SaidTest → NameTest
name_test t = record { name = t.name; least = t.least; greatest = t.greatest }

-- what words choose: the fields of these names, of the entries that pass this test, if there is one
abbrev pub choice_said : List (List ℕ) → Option SaidTest → SkimChoiceData
choice_said names test = record { names = names; test = option_map name_test test }

-- copies of the names and of the test that words say
pub record IsChoiceOf (names : List (List ℕ)) (said : Option SaidTest) (copies : List (List ℕ)) (test : Option NameTest) : Type 0 where
  pub names_are : copies ≡ names
  pub test_is : test ≡ option_map name_test said

-- the answer of a schema that has no such plan
abbrev pub status_of_plan : PlanError → Status
status_of_plan (plan.UnknownField name) = status.Schema (unmet.UnknownField name)
status_of_plan (plan.Twice name) = status.Schema (unmet.Twice name)
status_of_plan (plan.NotWritable name) = status.Schema (unmet.NotWritable name)
status_of_plan (plan.NotANumber name) = status.Schema (unmet.NotANumber name)
status_of_plan plan.Memory = status.Memory

-- the answer of a file that was written of another, or of what came in place of that
abbrev pub status_of_skim : Result Unit SkimStoreError → Status
status_of_skim (Ok done) = status.Done
status_of_skim (Err store.Outside) = status.Outside
status_of_skim (Err store.Memory) = status.Memory
status_of_skim (Err (store.Defect e)) = status.File e
status_of_skim (Err (store.Unplanned e)) = status_of_plan e
status_of_skim (Err (store.Limit reached limit)) = status.Limit reached limit

-- the command before its message is printed
pub record SkimNamed (out name : List ℕ) (c : SkimChoiceData) (p : Params) (old new : HostState) (answer : Status) : Type 0 where
  pub stored : Result Unit SkimStoreError
  pub answer_is : answer ≡ status_of_skim stored
  pub stores : StoresSelected out name c p old new stored

-- the whole file of these fields and entries passes no limit
abbrev pub FitsSelected : Params → List MemberData → List TreesData → Type 0
FitsSelected p fields entries = FitsWhole fields p (script_of entries)

-- all that is selected of a file fits
pub record FitsSkim (c : SkimChoiceData) (p : Params) (bytes : List ℕ) : Type 0 where
  pub selection : Selection
  pub entries : List TreesData
  pub all : SelectsAll c bytes selection entries
  pub fits : FitsSelected p selection.fields entries

-- all that is selected of a file can't be within the limits
pub record SkimBeyond (c : SkimChoiceData) (p : Params) (bytes : List ℕ) : Type 0 where
  pub selection : Selection
  pub entries : List TreesData
  pub all : SelectsAll c bytes selection entries
  pub beyond : MayFitSelected p selection.fields entries → ⊥

-- the whole file of what is selected before the first fault of a file passes this limit, and so it doesn't fit
pub record SkimPasses (c : SkimChoiceData) (p : Params) (bytes : List ℕ) (reached limit : ℕ) : Type 0 where
  pub selection : Selection
  pub entries : List TreesData
  pub before : SelectsBefore c bytes selection entries
  pub table : Table
  pub rows : Rows selection.fields p.plain table
  pub over : WholePasses table table p (script_of entries) reached limit
  pub beyond : FitsSelected p selection.fields entries → ⊥

-- this is the first fault of a file: one before its clusters, or one of its clusters, where what is selected before it fits
pub record HasDefectBehind (c : SkimChoiceData) (p : Params) (bytes : List ℕ) (e : ReadError) : Type 0 where
  pub fault : HasDefect bytes e
  pub before : (outline_of bytes ≡ Err e)
      ⊎ ((s : Selection) × (entries : List TreesData) × SelectsBefore c bytes s entries × FitsSelected p s.fields entries)

-- which answer it is, by what the file is, where the outside serves: this one, unless memory runs out
pub record AnswersSkim (name : List ℕ) (c : SkimChoiceData) (p : Params) (w : World) (answer : Status) : Type 0 where
  -- the new file is whole where the old one means a schema and entries, nothing stands against the plan, and no limit is passed
  pub complete : IsThereWith (FitsSkim c p) (file w name) → (answer ≡ status.Done) ⊎ (answer ≡ status.Memory)
  -- a limit is told where the new file can't be within the limits then
  pub limited : IsThereWith (SkimBeyond c p) (file w name)
      → ((reached limit : ℕ) × (answer ≡ status.Limit reached limit)) ⊎ (answer ≡ status.Memory)
  -- the first that stands against the plan is told of any file that has an outline
  pub unplanned : (e : PlanError) → IsThereWith (λ bytes. IsUnplanned c bytes e) (file w name)
      → (answer ≡ status_of_plan e) ⊎ (answer ≡ status.Memory)
  -- so is the first fault of the file, where no limit is passed before it
  pub faulty : (e : ReadError) → IsThereWith (λ bytes. HasDefectBehind c p bytes e) (file w name)
      → (answer ≡ status.File e) ⊎ (answer ≡ status.Memory)

-- the words were `skim .. OUT FILE NAME..`
pub record RunsSkim (out name : List ℕ) (c : SkimChoiceData) (p : Params) (old new : HostState) (answer : Status) : Type 0 where
  -- how it ended, which the answer tells
  pub stored : Result Unit SkimStoreError
  pub answer_is : answer ≡ status_of_skim stored
  -- where the host tells what it holds
  pub told : (w : World) → old.world ≡ Some w → (w' : World) × (new.world ≡ Some w') × SaysOnErr (message_of answer) old new w w'
      × OthersStay out w w' × SkimTold out name c p w w' stored
  -- where the file was begun, its first byte came only when all the rest stayed
  pub order : WritesInOrder out old.world new.world
  -- and wherever a crash comes behind the first sync, it leaves a file that is refused as unfinished, or the whole one
  pub crash : SkimCrashTold (IsWholeSkimOf name c p) out old.world new.world stored
  -- what was asked for: both names where the file is whole, and else the first of them
  pub asked : AsksFor (skim_asked out name) old.asked new.asked stored
  -- the plan stands first: no more than the file that is read was asked for where it isn't there or has no plan
  pub plan_first : AsksPlanFirst name c old new
  -- the outside is blamed only where it failed
  pub failed : answer ≡ status.Outside → Rose old.faults new.faults
  -- each object that was opened came back
  pub opened : new.opened ≡ old.opened
  -- a limit that is told is one that the whole file of what is selected passes
  pub passed : (w : World) → old.world ≡ Some w → (reached limit : ℕ) → answer ≡ status.Limit reached limit
      → IsThereWith (λ bytes. SkimPasses c p bytes reached limit) (file w name)
  -- where the outside serves, the file says which answer it is
  pub served : (w : World) → old.world ≡ Some w → Served old new → AnswersSkim name c p w answer
