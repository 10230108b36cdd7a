-- What merging leaves of a host.
use Rattle.std.specs.Prelude.{◌≡◌, ◌⊎◌, ℕ, ◌≤◌, List, [], ◌∷◌, ◌++◌, map, Some, Result, Ok, Err, IsErrOf}
use Rattle.nt_num.specs.declared.fault.ReadError.{ReadError}
use Rattle.nt_types.specs.TreeData.{TreesData}
use Rattle.nt_outside.specs.Faults.{Rose}
use Rattle.nt_outside.specs.File.{FileState}
use Rattle.nt_outside.specs.Order.{EndsInSync}
use Rattle.nt_outside.specs.World.{World, Asked, File, Out, HostState, file}
use Rattle.nt_grammar.specs.Table.{Table}
use Rattle.nt_book.specs.declared.params.Params.{Params}
use Rattle.nt_close.specs.Laws.{EndsOverFirst}
use Rattle.nt_file_meaning.specs.Outlines.{Outline}
use Rattle.nt_store.specs.Worlds.{AsksFirst, AsksFor, LeavesOut, KeepsFiles, OthersStay, MakesDisk, LeavesOpen, IsLeftByFailure}
use Rattle.nt_store.specs.Worlds.{IsLeftByMemory, WritesInOrder, IsLeftAfter}
use Rattle.nt_script.specs.declared.storing.Counts.{Counts}
use Rattle.nt_script.specs.Whole.{line_of_clusters}
use Rattle.nt_merge_limits.specs.Limits.{MergeOver}
use Rattle.nt_merge.specs.Files.{TellBytes, KeepFiles, OneRose}
use Rattle.nt_merge.specs.Planning.{outlines_from}
use Rattle.nt_merge.specs.Merging.{Numbered, all_numbered, sound_numbered, copied_metas, merged_table, IsFirstMergeFault, IsMerged}
use Rattle.nt_merge.specs.Merging.{IsMergedFile}
use Rattle.nt_merge_files.specs.declared.error.MergeStoreError.{MergeStoreError}
use Rattle.nt_merge_files.specs.declared.error.MergeStoreError.TheVariants.{Outside, Memory, Defect, Schema, Limit}
use Rattle.nt_merge_files.specs.Files.{AreThere, AreThereWith}
use Rattle.nt_merge_files.specs.Whole.{refused_first, IsMergeOf, IsWholeMerge, AreMergeNumbers, HavePlan, HasSchemaError}
use Rattle.nt_merge_files.specs.Whole.{IsFirstClusterFault, PassesMerge}
use Rattle.nt_merge_files.specs.Crashes.{MergeCrashTold}

-- a disk of this name was made, and its file is whole in this sense
pub record MakesMerged (Whole : List ℕ → Type 0) (out : List ℕ) (w w' : World) : Type 0 where
  pub made : MakesDisk out w w'
  pub image : List ℕ
  pub file_is : file w' out ≡ Some image
  pub whole : Whole image

-- ---- of these clusters, into a file of this schema

-- the file of the clusters before the first fault passes this limit, with what was reached, and nothing is refused before that
pub record PassesFirst (t : Table) (p : Params) (ns : List Numbered) (reached limit : ℕ) : Type 0 where
  pub over : MergeOver t p (copied_metas (sound_numbered ns)) reached limit
  pub first : refused_first t p ns ≡ Some (Limit reached limit)

-- what is left of the files once the disk is back, by the answer; nothing is printed yet
abbrev pub CopiesTold : List ℕ → Table → Params → List Numbered → World → World → Result Counts MergeStoreError → Type 0
CopiesTold out t p ns w w' (Ok counts) =
    (clusters : List (List TreesData)) × MakesMerged (IsMerged t p ns clusters) out w w' × IsLeftAfter EndsInSync out w'
    × AreMergeNumbers clusters counts
CopiesTold out t p ns w w' (Err Outside) =
    IsLeftByFailure out w w' ⊎ (MakesMerged (IsMergedFile t p ns) out w w' × IsLeftAfter EndsOverFirst out w')
CopiesTold out t p ns w w' (Err Memory) = IsLeftByMemory out w w'
CopiesTold out t p ns w w' (Err (Defect file e)) = IsFirstMergeFault t p ns file e × LeavesOpen out w w'
CopiesTold out t p ns w w' (Err (Schema place)) = ⊥
CopiesTold out t p ns w w' (Err (Limit reached limit)) = PassesFirst t p ns reached limit × LeavesOpen out w w'

module _ {F : Type 0} (state : F → FileState) where
  -- the count of a host never falls; where the outside failed it rose, or that of one of the files
  pub record HasMergeCause {T : Type 0} (files files' : List F) (before now : ℕ) (result : Result T MergeStoreError) : Type 0 where
    pub kept : KeepFiles state files files'
    pub later : before ≤ now
    pub failed : IsErrOf result Outside → Rose before now ⊎ OneRose state files files'

  -- the files of a plan were merged under a name, or not; as many objects are out as before, and no print on err failed
  pub record MergesPlanned (out : List ℕ) (p : Params) (plan : List Outline) (files files' : List F) (old new : HostState)
      (result : Result Counts MergeStoreError) : Type 0 where
    pub told : (w : World) (bytes : List (List ℕ)) → old.world ≡ Some w → TellBytes state files bytes → outlines_from 0 bytes ≡ Ok plan
        → (w' : World) × (new.world ≡ Some w') × (w'.err ≡ w.err) × (w'.out ≡ w.out) × OthersStay out w w'
        × CopiesTold out (merged_table plan) p (all_numbered 0 bytes plan) w w' result
    pub order : (bytes : List (List ℕ)) → TellBytes state files bytes → outlines_from 0 bytes ≡ Ok plan
        → WritesInOrder out old.world new.world
    pub crash : (bytes : List (List ℕ)) → TellBytes state files bytes → outlines_from 0 bytes ≡ Ok plan
        → MergeCrashTold (λ w. IsMergedFile (merged_table plan) p (all_numbered 0 bytes plan)) out old.world new.world result
    pub asked : AsksFor (Out out ∷ []) old.asked new.asked result
    pub cause : HasMergeCause files files' old.faults new.faults result
    pub back : LeavesOut 0 old new

-- ---- of files with these bytes

-- the first fault of the files is told, by the file's number: it is one before the clusters, and no disk was made; or it is one of a
-- cluster, before which nothing is refused, and the file can't pass for finished
abbrev pub FirstFaultTold : List ℕ → Params → List (List ℕ) → ℕ → ReadError → World → World → Type 0
FirstFaultTold out p bytes file e w w' =
    ((outlines_from 0 bytes ≡ Err (file, e)) × KeepsFiles w w') ⊎ (IsFirstClusterFault p bytes file e × LeavesOpen out w w')

-- what is left of the files, by the answer; nothing is printed yet
abbrev pub MergeOpenTold : List ℕ → Params → List (List ℕ) → World → World → Result Counts MergeStoreError → Type 0
MergeOpenTold out p bytes w w' (Ok counts) =
    (clusters : List (List TreesData)) × MakesMerged (IsMergeOf p bytes clusters) out w w' × IsLeftAfter EndsInSync out w'
    × AreMergeNumbers clusters counts
MergeOpenTold out p bytes w w' (Err Outside) =
    IsLeftByFailure out w w' ⊎ (MakesMerged (IsWholeMerge p bytes) out w w' × IsLeftAfter EndsOverFirst out w')
MergeOpenTold out p bytes w w' (Err Memory) = IsLeftByMemory out w w'
MergeOpenTold out p bytes w w' (Err (Defect file e)) = FirstFaultTold out p bytes file e w w'
MergeOpenTold out p bytes w w' (Err (Schema place)) = HasSchemaError bytes place × KeepsFiles w w'
MergeOpenTold out p bytes w w' (Err (Limit reached limit)) = PassesMerge p bytes reached limit × LeavesOpen out w w'

module _ {F : Type 0} (state : F → FileState) where
  -- open files were merged under a name, or not
  pub record MergesOpen (out : List ℕ) (p : Params) (files files' : List F) (old new : HostState)
      (result : Result Counts MergeStoreError) : Type 0 where
    pub told : (w : World) (bytes : List (List ℕ)) → old.world ≡ Some w → TellBytes state files bytes
        → (w' : World) × (new.world ≡ Some w') × (w'.err ≡ w.err) × (w'.out ≡ w.out) × OthersStay out w w'
        × MergeOpenTold out p bytes w w' result
    pub order : (bytes : List (List ℕ)) → TellBytes state files bytes → WritesInOrder out old.world new.world
    pub crash : (bytes : List (List ℕ)) → TellBytes state files bytes
        → MergeCrashTold (λ w. IsWholeMerge p bytes) out old.world new.world result
    pub asked : AsksFor (Out out ∷ []) old.asked new.asked result
    -- and nothing, where they can't be merged
    pub plan_first : (bytes : List (List ℕ)) → TellBytes state files bytes → (HavePlan bytes → ⊥) → new.asked ≡ old.asked
    pub cause : HasMergeCause state files files' old.faults new.faults result
    pub back : LeavesOut 0 old new

-- ---- of files of a host

-- the names that are asked for: the files that are merged, in order, and then the one that is written
abbrev pub merge_asked : List ℕ → List (List ℕ) → List Asked
merge_asked out names = map File names ++ Out out ∷ []

-- where a host has no files under these names that can be merged, nothing but they was asked for
abbrev pub AsksFilesFirst : List (List ℕ) → HostState → HostState → Type 0
AsksFilesFirst names old new =
    (w : World) → old.world ≡ Some w → (AreThereWith HavePlan w names → ⊥) → AsksFirst (map File names) old.asked new.asked

-- these bytes are the whole file of files of a host
abbrev pub IsWholeMergeOf : List (List ℕ) → Params → World → List ℕ → Type 0
IsWholeMergeOf names p w image = AreThereWith (λ bytes. IsWholeMerge p bytes image) w names

-- what is left of the files, by the answer; nothing is printed yet
abbrev pub MergeNamedTold : List ℕ → List (List ℕ) → Params → World → World → Result Counts MergeStoreError → Type 0
MergeNamedTold out names p w w' (Ok counts) = AreThereWith (λ bytes. MergeOpenTold out p bytes w w' (Ok counts)) w names
MergeNamedTold out names p w w' (Err Outside) =
    IsLeftByFailure out w w'
    ⊎ AreThereWith (λ bytes. MakesMerged (IsWholeMerge p bytes) out w w' × IsLeftAfter EndsOverFirst out w') w names
MergeNamedTold out names p w w' (Err Memory) = IsLeftByMemory out w w'
MergeNamedTold out names p w w' (Err (Defect file e)) = AreThereWith (λ bytes. FirstFaultTold out p bytes file e w w') w names
MergeNamedTold out names p w w' (Err (Schema place)) = AreThereWith (λ bytes. HasSchemaError bytes place) w names × KeepsFiles w w'
MergeNamedTold out names p w w' (Err (Limit reached limit)) =
    AreThereWith (λ bytes. PassesMerge p bytes reached limit) w names × LeavesOpen out w w'

-- files of a host were merged under a name, or not, and those that were opened came back
pub record MergesNamed (out : List ℕ) (names : List (List ℕ)) (p : Params) (old new : HostState)
    (result : Result Counts MergeStoreError) : Type 0 where
  pub told : (w : World) → old.world ≡ Some w
      → (w' : World) × (new.world ≡ Some w') × (w'.err ≡ w.err) × (w'.out ≡ w.out) × OthersStay out w w'
      × MergeNamedTold out names p w w' result
  pub order : WritesInOrder out old.world new.world
  pub crash : MergeCrashTold (IsWholeMergeOf names p) out old.world new.world result
  pub asked : AsksFor (merge_asked out names) old.asked new.asked result
  pub plan_first : AsksFilesFirst names old new
  pub later : old.faults ≤ new.faults
  pub failed : IsErrOf result Outside → Rose old.faults new.faults
  pub back : LeavesOut 0 old new

-- the file is the whole one of the files of these names, and out gained this of the line of its numbers
pub record StoresMerge (out : List ℕ) (names : List (List ℕ)) (p : Params) (w w' : World) (printed behind : List ℕ) : Type 0 where
  pub bytes : List (List ℕ)
  pub there : AreThere w names bytes
  pub clusters : List (List TreesData)
  pub makes : MakesMerged (IsMergeOf p bytes clusters) out w w'
  pub line : line_of_clusters clusters ≡ printed ++ behind
  pub gained : w'.out ≡ w.out ++ printed

-- what is left, by the answer. Where the outside failed and the file is whole nevertheless, either the last step was that of its first
-- byte, which failed or was followed by a failed sync, and nothing was printed; or the file was closed, and the line of its numbers
-- wasn't printed whole
abbrev pub MergeTold : List ℕ → List (List ℕ) → Params → World → World → Result Unit MergeStoreError → Type 0
MergeTold out names p w w' (Ok done) = (line : List ℕ) × StoresMerge out names p w w' line []
MergeTold out names p w w' (Err Outside) =
    (IsLeftByFailure out w w' × (w'.out ≡ w.out))
    ⊎ (((line : List ℕ) × StoresMerge out names p w w' [] line × IsLeftAfter EndsOverFirst out w')
    ⊎ ((printed behind : List ℕ) × StoresMerge out names p w w' printed behind × IsLeftAfter EndsInSync out w'))
MergeTold out names p w w' (Err Memory) = IsLeftByMemory out w w' × (w'.out ≡ w.out)
MergeTold out names p w w' (Err (Defect file e)) = AreThereWith (λ bytes. FirstFaultTold out p bytes file e w w') w names × (w'.out ≡ w.out)
MergeTold out names p w w' (Err (Schema place)) =
    AreThereWith (λ bytes. HasSchemaError bytes place) w names × KeepsFiles w w' × (w'.out ≡ w.out)
MergeTold out names p w w' (Err (Limit reached limit)) =
    AreThereWith (λ bytes. PassesMerge p bytes reached limit) w names × LeavesOpen out w w' × (w'.out ≡ w.out)

-- files of a host are merged into another, or why not
pub record StoresMerged (out : List ℕ) (names : List (List ℕ)) (p : Params) (old new : HostState)
    (result : Result Unit MergeStoreError) :
    Type 0 where
  -- where the host tells what it holds
  pub told : (w : World) → old.world ≡ Some w
      → (w' : World) × (new.world ≡ Some w') × (w'.err ≡ w.err) × OthersStay out w w' × MergeTold out names p w w' result
  -- where the file was begun, its first byte came only when all the rest stayed
  pub order : WritesInOrder out old.world new.world
  -- and a crash leaves it unfinished or whole
  pub crash : MergeCrashTold (IsWholeMergeOf names p) out old.world new.world result
  pub asked : AsksFor (merge_asked out names) old.asked new.asked result
  pub plan_first : AsksFilesFirst names old new
  -- a count of faults never falls, and it rose where the outside failed
  pub later : old.faults ≤ new.faults
  pub failed : IsErrOf result Outside → Rose old.faults new.faults
  -- each object that was opened came back
  pub back : LeavesOut 0 old new
