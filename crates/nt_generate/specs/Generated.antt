-- What the making of a file leaves of a host.
use Rattle.std.specs.Prelude.{◌≡◌, ◌⊎◌, ℕ, List, [], ◌∷◌, ◌++◌, Some, Result, Ok, Err}
use Rattle.nt_outside.specs.Order.{EndsInSync}
use Rattle.nt_outside.specs.World.{World, Out, File, HostState}
use Rattle.nt_book.specs.declared.params.Params.{Params}
use Rattle.nt_draws.specs.declared.making.Making.{Making}
use Rattle.nt_store.specs.Worlds.{AsksFor, OthersStay, MakesDisk, LeavesOpen, IsLeftByMemory, WritesInOrder, IsLeftAfter}
use Rattle.nt_generate.specs.declared.error.GenerateError.{GenerateError}
use Rattle.nt_generate.specs.declared.error.GenerateError.TheVariants.{Outside, Memory, Limit, Defect}
use Rattle.nt_generate.specs.Made.{made_lines, PassesMade}
use Rattle.nt_generate.specs.Leaving.{IsServed, IsWhole, IsMadeByFailure, MadeCrashTold}

-- out gained the front of the lines
pub record GainsMadeFront (p : Params) (m : Making) (w w' : World) : Type 0 where
  pub printed : List ℕ
  pub left : List ℕ
  pub out : w'.out ≡ w.out ++ printed
  pub lines : made_lines p m ≡ printed ++ left

-- the file is whole and its disk came back behind a sync, so what failed was to read it back or to print its totals: out gained their front
pub record IsToldInPart (p : Params) (m : Making) (commits name : List ℕ) (w w' : World) : Type 0 where
  pub made : MakesDisk name w w'
  pub whole : IsWhole p m commits name w'
  pub synced : IsLeftAfter EndsInSync name w'
  pub gained : GainsMadeFront p m w w'

-- what is left of what was committed in this order, by the answer. Where it ended before the disk was back, nothing was printed; that the
-- file read back has a fault never comes
abbrev pub GenerateTold : List ℕ → Params → Making → List ℕ → World → World → Result Unit GenerateError → Type 0
GenerateTold name p m commits w w' (Ok done) = MakesDisk name w w' × IsWhole p m commits name w' × (w'.out ≡ w.out ++ made_lines p m)
GenerateTold name p m commits w w' (Err Outside) =
    (IsMadeByFailure p m commits name w w' × (w'.out ≡ w.out)) ⊎ IsToldInPart p m commits name w w'
GenerateTold name p m commits w w' (Err Memory) = (IsLeftByMemory name w w' × (w'.out ≡ w.out)) ⊎ IsToldInPart p m commits name w w'
GenerateTold name p m commits w w' (Err (Limit reached most)) = PassesMade p m reached most × LeavesOpen name w w' × (w'.out ≡ w.out)
GenerateTold name p m commits w w' (Err (Defect e)) = ⊥

-- the file of this name is opened to be read only once it is whole, and its disk came back behind a sync
abbrev pub ReadsOnlyWhole : List ℕ → Params → Making → List ℕ → HostState → HostState → Type 0
ReadsOnlyWhole name p m commits old new =
    (w w' : World) → old.world ≡ Some w → new.world ≡ Some w' → new.asked ≡ old.asked ++ Out name ∷ File name ∷ []
    → IsWhole p m commits name w' × IsLeftAfter EndsInSync name w'

-- a file is made and read back, or why not
pub record Generates (name : List ℕ) (p : Params) (m : Making) (old new : HostState) (result : Result Unit GenerateError) : Type 0 where
  -- the order of the commits, one for what is told and for a crash
  pub commits : List ℕ
  -- where the host tells what it holds
  pub told : (w : World) → old.world ≡ Some w
      → (w' : World) × (new.world ≡ Some w') × (w'.err ≡ w.err) × OthersStay name w w' × GenerateTold name p m commits w w' result
  -- where the file was begun, its first byte came only when all the rest stayed
  pub order : WritesInOrder name old.world new.world
  -- and a crash leaves it unfinished or whole
  pub crash : MadeCrashTold name p m commits old.world new.world result
  pub asked : AsksFor (Out name ∷ File name ∷ []) old.asked new.asked result
  pub reads_whole : ReadsOnlyWhole name p m commits old new
  -- the outside is blamed only where it failed, and each object that was opened came back
  pub served : IsServed old new result
