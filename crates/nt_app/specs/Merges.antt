-- What a command `merge` does to a host, by its answer.
use Rattle.std.specs.Prelude.{◌≡◌, ◌⊎◌, ℕ, List, Some, Result, Ok, Err}
use Rattle.nt_num.specs.declared.fault.ReadError.{ReadError}
use Rattle.nt_types.specs.TreeData.{TreesData}
use Rattle.nt_outside.specs.Faults.{Rose}
use Rattle.nt_outside.specs.World.{World, HostState}
use Rattle.nt_book.specs.declared.params.Params.{Params}
use Rattle.nt_file_meaning.specs.Outlines.{Outline}
use Rattle.nt_store.specs.Worlds.{AsksFor, OthersStay, WritesInOrder}
use Rattle.nt_merge_limits.specs.Limits.{MergeFits}
use Rattle.nt_merge.specs.declared.place.SchemaPlace.{SchemaPlace as MergePlace}
use Rattle.nt_merge.specs.declared.place.SchemaPlace.TheVariants as unlike
use Rattle.nt_merge.specs.Planning.{ArePlanned, outlines_from}
use Rattle.nt_merge.specs.Merging.{Numbered, all_numbered, readings, sound_numbered, copied_metas, merged_table}
use Rattle.nt_merge_files.specs.declared.error.MergeStoreError.{MergeStoreError}
use Rattle.nt_merge_files.specs.declared.error.MergeStoreError.TheVariants as store
use Rattle.nt_merge_files.specs.Files.{AreThereWith}
use Rattle.nt_merge_files.specs.Whole.{refused_of, MeanEach, HasSchemaError}
use Rattle.nt_merge_files.specs.Crashes.{MergeCrashTold}
use Rattle.nt_merge_files.specs.Storing.{merge_asked, AsksFilesFirst, IsWholeMergeOf, MergeTold, StoresMerged}
use Rattle.nt_app.specs.declared.status.SchemaPlace.{SchemaPlace}
use Rattle.nt_app.specs.declared.status.SchemaPlace.TheVariants as unmet
use Rattle.nt_app.specs.declared.status.Status.{Status}
use Rattle.nt_app.specs.declared.status.Status.TheVariants as status
use Rattle.nt_app.specs.Statuses.{message_of}
use Rattle.nt_app.specs.Reports.{SaysOnErr, Served}

-- where the schemas of files that are merged can't be those of one
abbrev pub place_of_merge : MergePlace → SchemaPlace
place_of_merge (unlike.Closed file field) = unmet.Closed file field
place_of_merge (unlike.Deferred file column) = unmet.Deferred file column
place_of_merge (unlike.Field file id) = unmet.Field file id
place_of_merge (unlike.Column file id) = unmet.Column file id

-- the answer of a file that was written of others, or of what came in place of that
abbrev pub status_of_merge : Result Unit MergeStoreError → Status
status_of_merge (Ok done) = status.Done
status_of_merge (Err store.Outside) = status.Outside
status_of_merge (Err store.Memory) = status.Memory
status_of_merge (Err (store.Defect file e)) = status.FileOf file e
status_of_merge (Err (store.Schema place)) = status.Schema (place_of_merge place)
status_of_merge (Err (store.Limit reached limit)) = status.Limit reached limit

-- the command before its message is printed
pub record MergeNamed (out : List ℕ) (names : List (List ℕ)) (p : Params) (old new : HostState) (answer : Status) : Type 0 where
  pub stored : Result Unit MergeStoreError
  pub answer_is : answer ≡ status_of_merge stored
  pub stores : StoresMerged out names p old new stored

-- files with these bytes and outlines each mean a list of clusters, and nothing stands against merging their schemas
pub record MeanAlike (bytes : List (List ℕ)) (outlines : List Outline) : Type 0 where
  pub planned : ArePlanned bytes outlines
  pub each : List (List (List TreesData))
  pub mean : MeanEach bytes outlines each

-- the file of these clusters passes no limit, under the schema of files with these outlines
abbrev pub FitsClusters : Params → List Outline → List Numbered → Type 0
FitsClusters p outlines clusters = MergeFits (merged_table outlines) p (copied_metas clusters)

-- of all their clusters
abbrev pub FitsMerge : Params → List (List ℕ) → List Outline → Type 0
FitsMerge p bytes outlines = FitsClusters p outlines (all_numbered 0 bytes outlines)

-- of those before the first that has a fault
abbrev pub FitsBefore : Params → List (List ℕ) → List Outline → Type 0
FitsBefore p bytes outlines = FitsClusters p outlines (sound_numbered (all_numbered 0 bytes outlines))

-- files with these bytes are such, and the whole file passes no limit
abbrev pub MergeWithin : Params → List (List ℕ) → Type 0
MergeWithin p bytes = (outlines : List Outline) × MeanAlike bytes outlines × FitsMerge p bytes outlines

-- they are such, but the whole file passes a limit
abbrev pub MergeBeyond : Params → List (List ℕ) → Type 0
MergeBeyond p bytes = (outlines : List Outline) × MeanAlike bytes outlines × (FitsMerge p bytes outlines → ⊥)

-- nothing stands against the schemas, and of all that is refused in the order of the work this comes first
pub record HasRefusal (p : Params) (bytes : List (List ℕ)) (refusal : MergeStoreError) : Type 0 where
  pub outlines : List Outline
  pub planned : ArePlanned bytes outlines
  pub first : refused_of p bytes outlines ≡ Some refusal

-- nothing stands against the schemas, this is the first fault of the clusters, by the number of its file, and the file of those before
-- it passes no limit
pub record HasFaultWithin (p : Params) (bytes : List (List ℕ)) (file : ℕ) (e : ReadError) : Type 0 where
  pub outlines : List Outline
  pub planned : ArePlanned bytes outlines
  pub fault : readings (all_numbered 0 bytes outlines) ≡ Err (file, e)
  pub before : FitsBefore p bytes outlines

-- this is the first fault of files, by the number of its file: one before the clusters of any; or one of a cluster that comes first in the
-- order of the work, or before which the whole file passes no limit
abbrev pub HasFaultOf : Params → List (List ℕ) → ℕ → ReadError → Type 0
HasFaultOf p bytes file e =
    (outlines_from 0 bytes ≡ Err (file, e)) ⊎ (HasRefusal p bytes (store.Defect file e) ⊎ HasFaultWithin p bytes file e)

-- which answer it is, by what the files are, where the outside serves: this one, unless memory runs out
pub record AnswersMerge (names : List (List ℕ)) (p : Params) (w : World) (answer : Status) : Type 0 where
  -- the new file is whole where each file means clusters, nothing stands against the schemas, and no limit is passed
  pub complete : AreThereWith (MergeWithin p) w names → (answer ≡ status.Done) ⊎ (answer ≡ status.Memory)
  -- a limit is told where one is passed then
  pub limited : AreThereWith (MergeBeyond p) w names
      → ((reached limit : ℕ) × (answer ≡ status.Limit reached limit)) ⊎ (answer ≡ status.Memory)
  -- just this one is told, with what was reached, where it is passed before any other and before a fault of the clusters
  pub passed : (reached limit : ℕ) → AreThereWith (λ bytes. HasRefusal p bytes (store.Limit reached limit)) w names
      → (answer ≡ status.Limit reached limit) ⊎ (answer ≡ status.Memory)
  -- the first that stands against the schemas is told of any files that have outlines
  pub unlike : (place : MergePlace) → AreThereWith (λ bytes. HasSchemaError bytes place) w names
      → (answer ≡ status.Schema (place_of_merge place)) ⊎ (answer ≡ status.Memory)
  -- so is the first fault of the files, where no limit is passed before it
  pub faulty : (file : ℕ) (e : ReadError) → AreThereWith (λ bytes. HasFaultOf p bytes file e) w names
      → (answer ≡ status.FileOf file e) ⊎ (answer ≡ status.Memory)

-- the words were `merge .. OUT FILE..`
pub record RunsMerge (out : List ℕ) (names : List (List ℕ)) (p : Params) (old new : HostState) (answer : Status) : Type 0 where
  -- how it ended, which the answer tells
  pub stored : Result Unit MergeStoreError
  pub answer_is : answer ≡ status_of_merge stored
  -- where the host tells what it holds
  pub told : (w : World) → old.world ≡ Some w → (w' : World) × (new.world ≡ Some w') × SaysOnErr (message_of answer) old new w w'
      × OthersStay out w w' × MergeTold out names p w w' stored
  -- where the file was begun, its first byte came only when all the rest stayed
  pub order : WritesInOrder out old.world new.world
  -- and wherever a crash comes behind the first sync, it leaves a file that is refused as unfinished, or the whole one
  pub crash : MergeCrashTold (IsWholeMergeOf names p) out old.world new.world stored
  -- what was asked for: all names where the file is whole, and else the first of them
  pub asked : AsksFor (merge_asked out names) old.asked new.asked stored
  -- and only the files, where they aren't there or can't be merged
  pub plan_first : AsksFilesFirst names old new
  -- the outside is blamed only where it failed
  pub failed : answer ≡ status.Outside → Rose old.faults new.faults
  -- each object that was opened came back
  pub opened : new.opened ≡ old.opened
  -- where the outside serves, the files say which answer it is
  pub served : (w : World) → old.world ≡ Some w → Served old new → AnswersMerge names p w answer
