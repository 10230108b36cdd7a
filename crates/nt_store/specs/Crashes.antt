-- What a crash leaves of a file that is written from texts, wherever it cuts the steps off.
use Rattle.std.specs.Prelude.{◌≡◌, ℕ, List, ◌++◌, Option, Some, Result, Ok, Err}
use Rattle.nt_types.specs.ShapeData.{MemberData}
use Rattle.nt_outside.specs.declared.stream.Stream.TheVariants.{ToOut}
use Rattle.nt_outside.specs.Log.{Step}
use Rattle.nt_outside.specs.Held.{Held}
use Rattle.nt_outside.specs.World.{World, Stored, prints, stored}
use Rattle.nt_book.specs.declared.params.Params.{Params}
use Rattle.nt_cuts.specs.Cuts.{LeavesUnfinished, LeavesUnfinishedOr, LeavesOnly}
use Rattle.nt_store.specs.declared.error.StoreError.{StoreError}
use Rattle.nt_store.specs.declared.error.StoreError.TheVariants.{Outside, Memory, Schema, Line, Limit}
use Rattle.nt_store.specs.Orders.{order_line}
use Rattle.nt_store.specs.Texts.{AreTexts}
use Rattle.nt_store.specs.Whole.{IsStored}
use Rattle.nt_store.specs.Worlds.{MakesDisk}
use Rattle.nt_store.specs.Writing.{HoldsNow}

-- behind the first sync what is unfinished is left; the whole only once the first byte is written over; behind all steps of Ok just that
abbrev pub CrashLeaves : (List ℕ → Type 0) → List Step → Result Unit StoreError → Type 0
CrashLeaves Whole log (Ok done) = LeavesUnfinishedOr Whole log × LeavesOnly Whole log
CrashLeaves Whole log (Err Outside) = LeavesUnfinishedOr Whole log
CrashLeaves Whole log (Err Memory) = LeavesUnfinished log
CrashLeaves Whole log (Err (Schema line kind)) = LeavesUnfinished log
CrashLeaves Whole log (Err (Line input line kind)) = LeavesUnfinished log
CrashLeaves Whole log (Err (Limit reached limit)) = LeavesUnfinished log

-- these bytes are the stored file of a host's texts, in the order whose line out gained
pub record IsWholeOf (schema : List ℕ) (inputs : List (List ℕ)) (p : Params) (w w' : World) (bytes : List ℕ) : Type 0 where
  pub fields : List MemberData
  pub texts : List (List ℕ)
  pub are : AreTexts w schema inputs fields texts
  pub order : List ℕ
  pub stored : IsStored p fields texts order bytes
  pub printed : w'.out ≡ w.out ++ order_line order

-- the file of this name was written by a disk that told its steps, and this is what a crash at any of them leaves
pub record LeavesAllOrNone (name schema : List ℕ) (inputs : List (List ℕ)) (p : Params) (w w' : World) (result : Result Unit StoreError) :
    Type 0 where
  pub at : Stored
  pub log : List Step
  pub there : stored w' name ≡ Some at
  pub steps : at.log ≡ Some log
  pub leaves : CrashLeaves (IsWholeOf schema inputs p w w') log result

-- the same, where a disk of this name was made
abbrev pub CrashTold : List ℕ → List ℕ → List (List ℕ) → Params → Option World → Option World → Result Unit StoreError → Type 0
CrashTold name schema inputs p old new result =
    (w w' : World) → old ≡ Some w → new ≡ Some w' → MakesDisk name w w' → LeavesAllOrNone name schema inputs p w w' result

-- these bytes are the stored file of these texts, in the order whose line out gained
pub record EndsAsWhole (fields : List MemberData) (p : Params) (texts : List (List ℕ)) (w : World) (new : Option World) (bytes : List ℕ) :
    Type 0 where
  pub order : List ℕ
  pub stored : IsStored p fields texts order bytes
  pub printed : new ≡ Some (prints ToOut (order_line order) w)

-- what a crash leaves of a file on a disk that tells its steps
abbrev pub CrashesTo : List MemberData → Params → List (List ℕ) → World → Option World → Option Held → Result Unit StoreError → Type 0
CrashesTo fields p texts w new held result = HoldsNow held (λ h. CrashLeaves (EndsAsWhole fields p texts w new) h.log result)
