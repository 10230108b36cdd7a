-- What is left of a host: what it was asked for, what came back, and the files.
use Rattle.std.specs.Prelude.{◌≡◌, ◌≢◌, ◌⊎◌, ℕ, ◌+◌, ◌-◌, ◌<◌, ◌≤◌, List, [], ◌∷◌, ◌++◌, length, take, Option, Some, None, Result, Ok, Err}
use Rattle.std.specs.Prelude.{IsErrOf}
use Rattle.std.specs.List.{AllZip}
use Rattle.nt_outside.specs.Source.{SourceState}
use Rattle.nt_outside.specs.Faults.{Rose}
use Rattle.nt_outside.specs.Log.{Step, FailedAppend}
use Rattle.nt_outside.specs.Order.{FirstByteLast, BeginsOpen}
use Rattle.nt_outside.specs.World.{World, Stored, Asked, HostState, IsOpenText, stored, file}
use Rattle.nt_store.specs.declared.error.StoreError.{StoreError}
use Rattle.nt_store.specs.declared.error.StoreError.TheVariants.{Outside}

-- a text that is there and has this
abbrev pub IsThereWith : (List ℕ → Type 0) → Option (List ℕ) → Type 0
IsThereWith P None = ⊥
IsThereWith P (Some text) = P text

-- the first of these objects were asked for
abbrev pub AsksFirst : List Asked → List Asked → List Asked → Type 0
AsksFirst objects old new = (n : ℕ) × (new ≡ old ++ take n objects)

-- all of these objects were asked for, or the first of them before an early end
abbrev pub AsksFor : {T E : Type 0} → List Asked → List Asked → List Asked → Result T E → Type 0
AsksFor objects old new (Ok value) = new ≡ old ++ objects
AsksFor objects old new (Err e) = AsksFirst objects old new

-- these objects were asked for, or the first of them, and what the host holds stays
pub record AsksOnly {T E : Type 0} (objects : List Asked) (old new : HostState) (result : Result T E) : Type 0 where
  pub asked : AsksFor objects old.asked new.asked result
  pub world : new.world ≡ old.world

-- a count of faults never falls, and it rose where the outside failed
pub record HasStoreCause {T : Type 0} (before now : ℕ) (result : Result T StoreError) : Type 0 where
  pub later : before ≤ now
  pub failed : IsErrOf result Outside → Rose before now

-- so many objects more are out, and no print on err failed
pub record LeavesOut (more : ℕ) (old new : HostState) : Type 0 where
  pub err_faults : new.err_faults ≡ old.err_faults
  pub opened : new.opened ≡ old.opened + more

-- no disk was made, and every file stays
abbrev pub KeepsFiles : World → World → Type 0
KeepsFiles w w' = (w'.created ≡ w.created) × (w'.files ≡ w.files)

-- every file but one stays
abbrev pub OthersStay : List ℕ → World → World → Type 0
OthersStay name w w' = (other : List ℕ) → other ≢ name → stored w' other ≡ stored w other

-- one disk was made, of this name
abbrev pub MakesDisk : List ℕ → World → World → Type 0
MakesDisk name w w' = w'.created ≡ w.created ++ name ∷ []

-- the file of this name can't pass for finished: it has no byte, or its first one is 0
abbrev pub IsLeftOpen : List ℕ → World → Type 0
IsLeftOpen name w = IsThereWith BeginsOpen (file w name)

-- nothing is known of the file of this name, since its first append failed
pub record IsNeverBegun (name : List ℕ) (w : World) : Type 0 where
  pub at : Stored
  pub len : ℕ
  pub there : stored w name ≡ Some at
  pub log : at.log ≡ Some (FailedAppend len ∷ [])

-- a disk of this name was made, and its file can't pass for finished
abbrev pub LeavesOpen : List ℕ → World → World → Type 0
LeavesOpen name w w' = MakesDisk name w w' × IsLeftOpen name w'

-- where a failure leaves the files: as before, or, once a disk was made, with one that is open or never begun
abbrev pub IsLeftByFailure : List ℕ → World → World → Type 0
IsLeftByFailure name w w' = KeepsFiles w w' ⊎ (MakesDisk name w w' × (IsLeftOpen name w' ⊎ IsNeverBegun name w'))

-- where want of memory leaves the files: as before, or, once a disk was made, with one that is open
abbrev pub IsLeftByMemory : List ℕ → World → World → Type 0
IsLeftByMemory name w w' = KeepsFiles w w' ⊎ LeavesOpen name w w'

-- the file of this name was written in order, by a disk that told its steps
pub record IsWrittenInOrder (name : List ℕ) (w : World) : Type 0 where
  pub at : Stored
  pub log : List Step
  pub there : stored w name ≡ Some at
  pub steps : at.log ≡ Some log
  pub order : FirstByteLast log

-- where a disk of this name was made, its file was written in order
abbrev pub WritesInOrder : List ℕ → Option World → Option World → Type 0
WritesInOrder name old new = (w w' : World) → old ≡ Some w → new ≡ Some w' → MakesDisk name w w' → IsWrittenInOrder name w'

-- one of these texts has failed
abbrev pub SomeFailed : List SourceState → Type 0
SomeFailed [] = ⊥
SomeFailed (text ∷ texts) = (0 < text.faults) ⊎ SomeFailed texts

-- texts came back, and their faults are the host's from now on
pub record PutsTexts (texts : List SourceState) (old new : HostState) : Type 0 where
  pub world : new.world ≡ old.world
  pub asked : new.asked ≡ old.asked
  pub later : old.faults ≤ new.faults
  pub failed : SomeFailed texts → Rose old.faults new.faults
  pub err_faults : new.err_faults ≡ old.err_faults
  pub opened : new.opened ≡ old.opened - length texts

-- texts just opened have the whole bytes of their names, and no fault
abbrev pub AreOpenTexts : Option World → List (List ℕ) → List SourceState → Type 0
AreOpenTexts world names texts = AllZip (IsOpenText world) names texts

-- the file of this name was written by a disk that told its steps, which end so
pub record IsLeftAfter (Ends : List Step → Type 0) (name : List ℕ) (w : World) : Type 0 where
  pub at : Stored
  pub log : List Step
  pub there : stored w name ≡ Some at
  pub steps : at.log ≡ Some log
  pub ends : Ends log
