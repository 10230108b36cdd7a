-- What the writing of a selection leaves of a host.
use Rattle.std.specs.Prelude.{◌≡◌, ◌⊎◌, ℕ, ◌≤◌, List, [], ◌∷◌, ◌++◌, Some, Result, Ok, Err, IsErrOf}
use Rattle.nt_lists.specs.Chunks.{chunks}
use Rattle.nt_num.specs.declared.fault.ReadError.{ReadError}
use Rattle.nt_types.specs.ShapeData.{MemberData}
use Rattle.nt_types.specs.TreeData.{TreesData}
use Rattle.nt_outside.specs.Faults.{Rose}
use Rattle.nt_outside.specs.File.{FileState}
use Rattle.nt_outside.specs.Order.{EndsInSync}
use Rattle.nt_outside.specs.World.{World, Asked, File, Out, HostState, file}
use Rattle.nt_book.specs.declared.params.Params.{Params}
use Rattle.nt_close.specs.Laws.{EndsOverFirst}
use Rattle.nt_file_meaning.specs.Files.{HasDefect}
use Rattle.nt_file_meaning.specs.Outlines.{Outline, outline_of}
use Rattle.nt_store.specs.Worlds.{IsThereWith, AsksFirst, AsksFor, LeavesOut, KeepsFiles, OthersStay, MakesDisk, LeavesOpen}
use Rattle.nt_store.specs.Worlds.{IsLeftByFailure, IsLeftByMemory, WritesInOrder, IsLeftAfter}
use Rattle.nt_script.specs.declared.storing.Counts.{Counts}
use Rattle.nt_script.specs.Whole.{line_of_clusters}
use Rattle.nt_skim.specs.Select.{Selection, selected, entries_read, before_fault, cluster_readings}
use Rattle.nt_skim_file.specs.declared.error.SkimStoreError.{SkimStoreError}
use Rattle.nt_skim_file.specs.declared.error.SkimStoreError.TheVariants.{Outside, Memory, Defect, Unplanned, Limit}
use Rattle.nt_skim_file.specs.Whole.{IsSelectedFile, IsWholeSelection, AreSelectedNumbers, PassesSelected}
use Rattle.nt_skim_file.specs.Crashes.{SkimCrashTold}
use Rattle.nt_skim_file.specs.Filing.{KeepsFile}
use Rattle.nt_skim_file.specs.Choosing.{SkimChoiceData, IsPlanned, IsUnplanned, HasNoPlan, SelectsAll, SelectsBefore}

-- a disk of this name was made, and its file is the whole one of these entries
pub record MakesSelectedFile (out : List ℕ) (p : Params) (fields : List MemberData) (entries : List TreesData) (w w' : World) : Type 0 where
  pub made : MakesDisk out w w'
  pub bytes : List ℕ
  pub file_is : file w' out ≡ Some bytes
  pub whole : IsSelectedFile p fields entries bytes

-- ---- with a plan, of clusters that are read as these

-- what is left of the files once the disk is back, by the answer; nothing is printed yet
abbrev pub SkimFilesTold : List ℕ → Params → Selection → List (Result (List TreesData) ReadError) → World → World
    → Result Counts SkimStoreError → Type 0
SkimFilesTold out p s rs w w' (Ok counts) =
    (entries : List TreesData) × (entries_read rs ≡ Ok entries) × MakesSelectedFile out p s.fields (selected s entries) w w'
    × IsLeftAfter EndsInSync out w' × AreSelectedNumbers p (selected s entries) counts
SkimFilesTold out p s rs w w' (Err Outside) =
    IsLeftByFailure out w w'
    ⊎ ((entries : List TreesData) × (entries_read rs ≡ Ok entries) × MakesSelectedFile out p s.fields (selected s entries) w w'
    × IsLeftAfter EndsOverFirst out w')
SkimFilesTold out p s rs w w' (Err Memory) = IsLeftByMemory out w w'
SkimFilesTold out p s rs w w' (Err (Defect e)) = (entries_read rs ≡ Err e) × LeavesOpen out w w'
SkimFilesTold out p s rs w w' (Err (Limit reached most)) =
    PassesSelected p s.fields (selected s (before_fault rs)) reached most × LeavesOpen out w w'
SkimFilesTold out p s rs w w' (Err (Unplanned e)) = ⊥

-- the count of a host never falls; where the outside failed it rose, or that of the file
pub record HasSkimCause {T : Type 0} (file file' : FileState) (before now : ℕ) (result : Result T SkimStoreError) : Type 0 where
  pub kept : KeepsFile file file'
  pub later : before ≤ now
  pub failed : IsErrOf result Outside → Rose before now ⊎ Rose file.faults file'.faults

-- as many objects are out as before, and no print on err failed
pub record FilesSelection (out : List ℕ) (p : Params) (s : Selection) (o : Outline) (file file' : FileState) (old new : HostState)
    (result : Result Counts SkimStoreError) : Type 0 where
  pub told : (w : World) (bytes : List ℕ) → old.world ≡ Some w → file.bytes ≡ Some bytes
      → (w' : World) × (new.world ≡ Some w') × (w'.err ≡ w.err) × (w'.out ≡ w.out) × OthersStay out w w'
      × SkimFilesTold out p s (cluster_readings bytes o) w w' result
  pub order : WritesInOrder out old.world new.world
  pub crash : (bytes : List ℕ) → file.bytes ≡ Some bytes
      → SkimCrashTold (λ w. IsWholeSelection p s (cluster_readings bytes o)) out old.world new.world result
  pub asked : AsksFor (Out out ∷ []) old.asked new.asked result
  pub cause : HasSkimCause file file' old.faults new.faults result
  pub back : LeavesOut 0 old new

-- ---- with a choice, of the bytes of a file

-- a disk was made, and its file is the whole one of all that is selected
pub record MakesSkim (out : List ℕ) (c : SkimChoiceData) (p : Params) (bytes : List ℕ) (w w' : World) : Type 0 where
  pub selection : Selection
  pub entries : List TreesData
  pub all : SelectsAll c bytes selection entries
  pub made : MakesSelectedFile out p selection.fields entries w w'

-- these bytes are the whole file of all that is selected
pub record IsWholeSkim (c : SkimChoiceData) (p : Params) (bytes image : List ℕ) : Type 0 where
  pub selection : Selection
  pub entries : List TreesData
  pub all : SelectsAll c bytes selection entries
  pub whole : IsSelectedFile p selection.fields entries image

-- what is selected before the first fault passes this limit
pub record PassesSkim (c : SkimChoiceData) (p : Params) (bytes : List ℕ) (reached limit : ℕ) : Type 0 where
  pub selection : Selection
  pub entries : List TreesData
  pub before : SelectsBefore c bytes selection entries
  pub over : PassesSelected p selection.fields entries reached limit

-- the first fault of a file is told: it is one before its clusters, and no disk was made; or it is one of its clusters, and the file
-- can't pass for finished
pub record DefectTold (out : List ℕ) (c : SkimChoiceData) (bytes : List ℕ) (e : ReadError) (w w' : World) : Type 0 where
  pub fault : HasDefect bytes e
  pub left : ((outline_of bytes ≡ Err e) × KeepsFiles w w')
      ⊎ ((o : Outline) × (s : Selection) × IsPlanned c bytes o s × LeavesOpen out w w')

-- what is left of the files, by the answer; nothing is printed yet
abbrev pub OpenTold : List ℕ → SkimChoiceData → Params → List ℕ → World → World → Result Counts SkimStoreError → Type 0
OpenTold out c p bytes w w' (Ok counts) =
    (makes : MakesSkim out c p bytes w w') × IsLeftAfter EndsInSync out w' × AreSelectedNumbers p makes.entries counts
OpenTold out c p bytes w w' (Err Outside) =
    IsLeftByFailure out w w' ⊎ (MakesSkim out c p bytes w w' × IsLeftAfter EndsOverFirst out w')
OpenTold out c p bytes w w' (Err Memory) = IsLeftByMemory out w w'
OpenTold out c p bytes w w' (Err (Defect e)) = DefectTold out c bytes e w w'
OpenTold out c p bytes w w' (Err (Unplanned e)) = IsUnplanned c bytes e × KeepsFiles w w'
OpenTold out c p bytes w w' (Err (Limit reached most)) = PassesSkim c p bytes reached most × LeavesOpen out w w'

-- nothing is asked for where an open file that tells its bytes has no plan
abbrev pub AsksOncePlanned : SkimChoiceData → FileState → List Asked → List Asked → Type 0
AsksOncePlanned c file old new = (bytes : List ℕ) → file.bytes ≡ Some bytes → HasNoPlan c bytes → new ≡ old

-- what an open file selects was written under a name, or not
pub record SkimsOpen (out : List ℕ) (c : SkimChoiceData) (p : Params) (file file' : FileState) (old new : HostState)
    (result : Result Counts SkimStoreError) : Type 0 where
  pub told : (w : World) (bytes : List ℕ) → old.world ≡ Some w → file.bytes ≡ Some bytes
      → (w' : World) × (new.world ≡ Some w') × (w'.err ≡ w.err) × (w'.out ≡ w.out) × OthersStay out w w'
      × OpenTold out c p bytes w w' result
  pub order : WritesInOrder out old.world new.world
  pub crash : (bytes : List ℕ) → file.bytes ≡ Some bytes
      → SkimCrashTold (λ w. IsWholeSkim c p bytes) out old.world new.world result
  pub asked : AsksFor (Out out ∷ []) old.asked new.asked result
  pub plan_first : AsksOncePlanned c file old.asked new.asked
  pub cause : HasSkimCause file file' old.faults new.faults result
  pub back : LeavesOut 0 old new

-- ---- of a file of a host

-- the names that are asked for: the file that is read, and then the one that is written
abbrev pub skim_asked : List ℕ → List ℕ → List Asked
skim_asked out name = File name ∷ Out out ∷ []

-- no more than the file that is read is asked for where it isn't there or has no plan
abbrev pub AsksPlanFirst : List ℕ → SkimChoiceData → HostState → HostState → Type 0
AsksPlanFirst name c old new =
    (w : World) → old.world ≡ Some w → ((bytes : List ℕ) → file w name ≡ Some bytes → HasNoPlan c bytes)
    → AsksFirst (File name ∷ []) old.asked new.asked

-- the file is the whole one of all that is selected, and out gained this of the line of its numbers
pub record StoresSkim (out name : List ℕ) (c : SkimChoiceData) (p : Params) (w w' : World) (printed behind : List ℕ) : Type 0 where
  pub bytes : List ℕ
  pub there : file w name ≡ Some bytes
  pub makes : MakesSkim out c p bytes w w'
  pub line : line_of_clusters (chunks p.cluster makes.entries) ≡ printed ++ behind
  pub gained : w'.out ≡ w.out ++ printed

-- these bytes are the whole file of all that is selected of a host's file
abbrev pub IsWholeSkimOf : List ℕ → SkimChoiceData → Params → World → List ℕ → Type 0
IsWholeSkimOf name c p w image = IsThereWith (λ bytes. IsWholeSkim c p bytes image) (file w name)

-- what is left of the files, by the answer; nothing is printed yet
abbrev pub NamedTold : List ℕ → List ℕ → SkimChoiceData → Params → World → World → Result Counts SkimStoreError → Type 0
NamedTold out name c p w w' (Ok counts) = IsThereWith (λ bytes. OpenTold out c p bytes w w' (Ok counts)) (file w name)
NamedTold out name c p w w' (Err Outside) =
    IsLeftByFailure out w w' ⊎ IsThereWith (λ bytes. MakesSkim out c p bytes w w' × IsLeftAfter EndsOverFirst out w') (file w name)
NamedTold out name c p w w' (Err Memory) = IsLeftByMemory out w w'
NamedTold out name c p w w' (Err (Defect e)) = IsThereWith (λ bytes. DefectTold out c bytes e w w') (file w name)
NamedTold out name c p w w' (Err (Unplanned e)) = IsThereWith (λ bytes. IsUnplanned c bytes e) (file w name) × KeepsFiles w w'
NamedTold out name c p w w' (Err (Limit reached limit)) =
    IsThereWith (λ bytes. PassesSkim c p bytes reached limit) (file w name) × LeavesOpen out w w'

-- what a file of a host selects was written under a name, or not, and the file came back
pub record SkimsNamed (out name : List ℕ) (c : SkimChoiceData) (p : Params) (old new : HostState) (result : Result Counts SkimStoreError) :
    Type 0 where
  pub told : (w : World) → old.world ≡ Some w
      → (w' : World) × (new.world ≡ Some w') × (w'.err ≡ w.err) × (w'.out ≡ w.out) × OthersStay out w w'
      × NamedTold out name c p w w' result
  pub order : WritesInOrder out old.world new.world
  pub crash : SkimCrashTold (IsWholeSkimOf name c p) out old.world new.world result
  pub asked : AsksFor (skim_asked out name) old.asked new.asked result
  pub plan_first : AsksPlanFirst name c old new
  pub later : old.faults ≤ new.faults
  pub failed : IsErrOf result Outside → Rose old.faults new.faults
  pub back : LeavesOut 0 old new

-- what is left, by the answer. Where the outside failed and the file is whole nevertheless, either the last step was that of its first
-- byte, which failed or was followed by a failed sync, and nothing was printed; or the file was closed, and the line of its numbers
-- wasn't printed whole
abbrev pub SkimTold : List ℕ → List ℕ → SkimChoiceData → Params → World → World → Result Unit SkimStoreError → Type 0
SkimTold out name c p w w' (Ok done) = (line : List ℕ) × StoresSkim out name c p w w' line []
SkimTold out name c p w w' (Err Outside) =
    (IsLeftByFailure out w w' × (w'.out ≡ w.out))
    ⊎ (((line : List ℕ) × StoresSkim out name c p w w' [] line × IsLeftAfter EndsOverFirst out w')
    ⊎ ((printed behind : List ℕ) × StoresSkim out name c p w w' printed behind × IsLeftAfter EndsInSync out w'))
SkimTold out name c p w w' (Err Memory) = IsLeftByMemory out w w' × (w'.out ≡ w.out)
SkimTold out name c p w w' (Err (Defect e)) =
    IsThereWith (λ bytes. DefectTold out c bytes e w w') (file w name) × (w'.out ≡ w.out)
SkimTold out name c p w w' (Err (Unplanned e)) =
    IsThereWith (λ bytes. IsUnplanned c bytes e) (file w name) × KeepsFiles w w' × (w'.out ≡ w.out)
SkimTold out name c p w w' (Err (Limit reached limit)) =
    IsThereWith (λ bytes. PassesSkim c p bytes reached limit) (file w name) × LeavesOpen out w w' × (w'.out ≡ w.out)

-- what is selected of a file of a host is written as another, or why not
pub record StoresSelected (out name : List ℕ) (c : SkimChoiceData) (p : Params) (old new : HostState)
    (result : Result Unit SkimStoreError) :
    Type 0 where
  -- where the host tells what it holds
  pub told : (w : World) → old.world ≡ Some w
      → (w' : World) × (new.world ≡ Some w') × (w'.err ≡ w.err) × OthersStay out w w' × SkimTold out name c p w w' result
  -- where the file was begun, its first byte came only when all the rest stayed
  pub order : WritesInOrder out old.world new.world
  -- and a crash leaves it unfinished or whole
  pub crash : SkimCrashTold (IsWholeSkimOf name c p) out old.world new.world result
  pub asked : AsksFor (skim_asked out name) old.asked new.asked result
  -- the plan stands before the file that is written is asked for
  pub plan_first : AsksPlanFirst name c old new
  -- a count of faults never falls, and it rose where the outside failed
  pub later : old.faults ≤ new.faults
  pub failed : IsErrOf result Outside → Rose old.faults new.faults
  -- each object that was opened came back
  pub back : LeavesOut 0 old new
