-- What the parts of the making of a file leave of a host.
use Rattle.std.specs.Prelude.{◌≡◌, ◌⊎◌, ℕ, ◌≤◌, List, [], ◌∷◌, ◌++◌, Option, Some, Result, Ok, Err, IsErrOf}
use Rattle.nt_outside.specs.declared.stream.Stream.TheVariants.{ToOut}
use Rattle.nt_outside.specs.Faults.{Rose}
use Rattle.nt_outside.specs.Log.{Step}
use Rattle.nt_outside.specs.Order.{EndsInSync}
use Rattle.nt_outside.specs.World.{World, Stored, Out, File, HostState, stored, file, prints}
use Rattle.nt_book.specs.declared.params.Params.{Params}
use Rattle.nt_close.specs.Laws.{EndsOverFirst}
use Rattle.nt_draws.specs.declared.making.Making.{Making}
use Rattle.nt_store.specs.Worlds.{IsThereWith, AsksFor, LeavesOut, KeepsFiles, OthersStay, MakesDisk, IsLeftOpen, IsNeverBegun, LeavesOpen}
use Rattle.nt_store.specs.Worlds.{IsLeftByMemory, WritesInOrder, IsLeftAfter}
use Rattle.nt_generate.specs.declared.total.Total.{Total}
use Rattle.nt_generate.specs.Lines.{total_lines}
use Rattle.nt_generate.specs.ReadTotals.{totals_in}
use Rattle.nt_generate.specs.declared.error.GenerateError.{GenerateError}
use Rattle.nt_generate.specs.declared.error.GenerateError.TheVariants.{Outside, Memory, Limit, Defect}
use Rattle.nt_generate.specs.Made.{IsMade, PassesMade}
use Rattle.nt_generate.specs.Writing.{MadeCrash}

-- the count of a host never falls, and it rose where the outside failed; as many objects are out, and no print on err failed
pub record IsServed {V : Type 0} (old new : HostState) (result : Result V GenerateError) : Type 0 where
  pub later : old.faults ≤ new.faults
  pub failed : IsErrOf result Outside → Rose old.faults new.faults
  pub back : LeavesOut 0 old new

-- the file of this name is whole, in this order of the commits
abbrev pub IsWhole : Params → Making → List ℕ → List ℕ → World → Type 0
IsWhole p m commits name w = IsThereWith (IsMade p m commits) (file w name)

-- where a failure before the disk is back leaves the files: as before, or, once a disk was made, with one that is open, never begun, or
-- whole, whose last step was over its first byte, or a sync behind that failed
abbrev pub IsMadeByFailure : Params → Making → List ℕ → List ℕ → World → World → Type 0
IsMadeByFailure p m commits name w w' =
    KeepsFiles w w'
    ⊎ (MakesDisk name w w'
    × (IsLeftOpen name w' ⊎ IsNeverBegun name w' ⊎ (IsWhole p m commits name w' × IsLeftAfter EndsOverFirst name w')))

-- what is left once the disk is back, by the answer
abbrev pub MakeTold : {V : Type 0} → (V → List ℕ) → Params → Making → List ℕ → List ℕ → World → World → Result V GenerateError → Type 0
MakeTold order p m commits name w w' (Ok made) =
    (order made ≡ commits) × MakesDisk name w w' × IsWhole p m commits name w' × IsLeftAfter EndsInSync name w'
MakeTold order p m commits name w w' (Err Outside) = IsMadeByFailure p m commits name w w'
MakeTold order p m commits name w w' (Err Memory) = IsLeftByMemory name w w'
MakeTold order p m commits name w w' (Err (Limit reached most)) = PassesMade p m reached most × LeavesOpen name w w'
MakeTold order p m commits name w w' (Err (Defect e)) = ⊥

-- the file of this name was written by a disk that told its steps, and this is what a crash at any of them leaves
pub record LeavesMade {V : Type 0} (name : List ℕ) (p : Params) (m : Making) (commits : List ℕ) (w' : World)
    (result : Result V GenerateError) : Type 0 where
  pub at : Stored
  pub log : List Step
  pub there : stored w' name ≡ Some at
  pub steps : at.log ≡ Some log
  pub leaves : MadeCrash (IsMade p m commits) log result

-- the same, where a disk of this name was made
abbrev pub MadeCrashTold : {V : Type 0} → List ℕ → Params → Making → List ℕ → Option World → Option World → Result V GenerateError
    → Type 0
MadeCrashTold name p m commits old new result =
    (w w' : World) → old ≡ Some w → new ≡ Some w' → MakesDisk name w w' → LeavesMade name p m commits w' result

-- a file is made, or why not
pub record MakesFile {V : Type 0} (order : V → List ℕ) (name : List ℕ) (p : Params) (m : Making) (old new : HostState)
    (result : Result V GenerateError) : Type 0 where
  -- the order of the commits, one for what is told and for a crash
  pub commits : List ℕ
  pub told : (w : World) → old.world ≡ Some w → (w' : World) × (new.world ≡ Some w') × (w'.err ≡ w.err) × (w'.out ≡ w.out)
      × OthersStay name w w' × MakeTold order p m commits name w w' result
  pub order_kept : WritesInOrder name old.world new.world
  pub crash : MadeCrashTold name p m commits old.world new.world result
  pub asked : AsksFor (Out name ∷ []) old.asked new.asked result
  pub served : IsServed old new result

-- the totals of a file that may not be there, or its first fault, unless the outside or memory failed
abbrev pub ReadTold : {V : Type 0} → (V → List Total) → ℕ → List ℕ → Option (List ℕ) → Result V GenerateError → Type 0
ReadTold totals contexts order found (Ok read) = IsThereWith (λ bytes. totals_in contexts order bytes ≡ Ok (totals read)) found
ReadTold totals contexts order found (Err (Defect e)) = IsThereWith (λ bytes. totals_in contexts order bytes ≡ Err e) found
ReadTold totals contexts order found (Err Outside) = Unit {0}
ReadTold totals contexts order found (Err Memory) = Unit {0}
ReadTold totals contexts order found (Err (Limit reached most)) = ⊥

-- the totals of the file of this name were read, or why not
pub record ReadsTotals {V : Type 0} (totals : V → List Total) (name : List ℕ) (contexts : ℕ) (order : List ℕ) (old new : HostState)
    (result : Result V GenerateError) : Type 0 where
  pub told : (w : World) → old.world ≡ Some w → ReadTold totals contexts order (file w name) result
  pub world : new.world ≡ old.world
  pub asked : AsksFor (File name ∷ []) old.asked new.asked result
  pub served : IsServed old new result

-- out gained the front of the lines of a file's totals, or nothing
abbrev pub PrintsTotalsFront : ℕ → List ℕ → Option (List ℕ) → World → Option World → Type 0
PrintsTotalsFront contexts order found w new =
    (new ≡ Some w) ⊎ IsThereWith (λ bytes. (totals : List Total) × (printed left : List ℕ) × (totals_in contexts order bytes ≡ Ok totals)
    × (new ≡ Some (prints ToOut printed w)) × (total_lines totals ≡ printed ++ left)) found

-- out gained all of them, or, where something failed, their front
abbrev pub TellTold : ℕ → List ℕ → Option (List ℕ) → World → Option World → Result Unit GenerateError → Type 0
TellTold contexts order found w new (Ok done) =
    IsThereWith (λ bytes. (totals : List Total) × (totals_in contexts order bytes ≡ Ok totals)
    × (new ≡ Some (prints ToOut (total_lines totals) w))) found
TellTold contexts order found w new (Err (Defect e)) = IsThereWith (λ bytes. totals_in contexts order bytes ≡ Err e) found × (new ≡ Some w)
TellTold contexts order found w new (Err Outside) = PrintsTotalsFront contexts order found w new
TellTold contexts order found w new (Err Memory) = PrintsTotalsFront contexts order found w new
TellTold contexts order found w new (Err (Limit reached most)) = ⊥

-- the totals of the file of this name were told on out, or why not
pub record TellsTotals (name : List ℕ) (contexts : ℕ) (order : List ℕ) (old new : HostState) (result : Result Unit GenerateError) : Type 0
  where
    pub told : (w : World) → old.world ≡ Some w → TellTold contexts order (file w name) w new.world result
    pub asked : AsksFor (File name ∷ []) old.asked new.asked result
    pub served : IsServed old new result
