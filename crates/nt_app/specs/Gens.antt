-- What a command `gen` does to a host, by its answer.
use Rattle.std.specs.Prelude.{◌≡◌, ◌⊎◌, ℕ, ◌-◌, ◌^◌, false, List, [], ◌∷◌, Some, Result, Ok, Err}
use Rattle.nt_outside.specs.Faults.{Rose}
use Rattle.nt_outside.specs.World.{World, Out, File, HostState}
use Rattle.nt_book.specs.declared.params.Params.{Params}
use Rattle.nt_grammar.specs.Rows.{Rows}
use Rattle.nt_grammar.specs.Table.{Table}
use Rattle.nt_dealing.specs.Texts.{joined_chunks}
use Rattle.nt_dealing.specs.Limits.{WholeFits}
use Rattle.nt_draws.specs.Events.{event_fields}
use Rattle.nt_draws.specs.declared.making.Making.{Making}
use Rattle.nt_store.specs.Worlds.{AsksFor, OthersStay, WritesInOrder}
use Rattle.nt_generate.specs.declared.error.GenerateError.{GenerateError}
use Rattle.nt_generate.specs.declared.error.GenerateError.TheVariants as generate
use Rattle.nt_generate.specs.Made.{made_chunks}
use Rattle.nt_generate.specs.Leaving.{MadeCrashTold}
use Rattle.nt_generate.specs.Generated.{GenerateTold, ReadsOnlyWhole, Generates}
use Rattle.nt_app.specs.declared.status.Status.{Status}
use Rattle.nt_app.specs.declared.status.Status.TheVariants as status
use Rattle.nt_app.specs.Statuses.{message_of}
use Rattle.nt_app.specs.Reports.{SaysOnErr, Served}

-- the answer of a file that was made, or of what came in place of that
abbrev pub status_of_generate : Result Unit GenerateError → Status
status_of_generate (Ok done) = status.Done
status_of_generate (Err generate.Outside) = status.Outside
status_of_generate (Err generate.Memory) = status.Memory
status_of_generate (Err (generate.Limit reached limit)) = status.Limit reached limit
status_of_generate (Err (generate.Defect fault)) = status.File fault

-- how a file is written where no words say it: 10000 entries a cluster, 4096 elements a page, 1000 clusters a group, at most 2^30 bytes a
-- range and 2^40 the file, and no cluster is staged
pub record AreDefaults (p : Params) : Type 0 where
  pub cluster : p.cluster ≡ 10000
  pub page : p.page ≡ 4096
  pub group : p.group ≡ 1000
  pub plain : p.plain ≡ false
  pub staged : p.staged ≡ false
  pub range : p.limits.range ≡ 2 ^ 30
  pub file : p.limits.file ≡ 2 ^ 40
  pub clusters : p.limits.clusters ≡ 2 ^ 32 - 1

-- the command before its message is printed
pub record GenNamed (out : List ℕ) (m : Making) (old new : HostState) (answer : Status) : Type 0 where
  pub p : Params
  pub defaults : AreDefaults p
  pub made : Result Unit GenerateError
  pub answer_is : answer ≡ status_of_generate made
  pub generates : Generates out p m old new made

-- the whole file of what is made fits
abbrev pub FitsMade : Params → Making → Type 0
FitsMade p m = (t : Table) → Rows event_fields p.plain t → WholeFits t p (joined_chunks (made_chunks p m))

-- the words were `gen C E SEED OUT`, and so much is made
pub record RunsGen (out : List ℕ) (m : Making) (old new : HostState) (answer : Status) : Type 0 where
  -- by which parameters: the defaults
  pub p : Params
  pub defaults : AreDefaults p
  -- how it ended, which the answer tells
  pub made : Result Unit GenerateError
  pub answer_is : answer ≡ status_of_generate made
  -- the order in which the chunks were committed: one, for what is told and for what a crash leaves
  pub commits : List ℕ
  -- where the host tells what it holds
  pub told : (w : World) → old.world ≡ Some w → (w' : World) × (new.world ≡ Some w') × SaysOnErr (message_of answer) old new w w'
      × OthersStay out w w' × GenerateTold out p m commits w w' made
  -- where the file was begun, its first byte came only when all the rest stayed
  pub order : WritesInOrder out old.world new.world
  -- and wherever a crash comes behind the first sync, it leaves a file that is refused as unfinished, or the whole one
  pub crash : MadeCrashTold out p m commits old.world new.world made
  -- what was asked for: the name to write and then to read where all is done, and else the first of that
  pub asked : AsksFor (Out out ∷ File out ∷ []) old.asked new.asked made
  -- and it was opened to be read only once it was whole, behind a sync
  pub reads_whole : ReadsOnlyWhole out p m commits old new
  -- the outside is blamed only where it failed
  pub failed : answer ≡ status.Outside → Rose old.faults new.faults
  -- each object that was opened came back
  pub opened : new.opened ≡ old.opened
  -- where the outside serves and no limit is passed, all is done unless memory runs out
  pub complete : (w : World) → old.world ≡ Some w → Served old new → FitsMade p m → (answer ≡ status.Done) ⊎ (answer ≡ status.Memory)
