-- What a command does to a host that reads a file and shows it, by its answer: `entries` and `schema`.
use Rattle.std.specs.Prelude.{⊤, ◌≡◌, ◌⊎◌, ℕ, ◌≤◌, List, [], ◌∷◌, ◌++◌, Option, Some, None, Result, Ok, Err}
use Rattle.nt_num.specs.declared.fault.ReadError.{ReadError}
use Rattle.nt_outside.specs.declared.fault.Refused.{Refused}
use Rattle.nt_outside.specs.declared.fault.Refused.TheVariants as refused
use Rattle.nt_outside.specs.Faults.{Rose}
use Rattle.nt_outside.specs.World.{World, Asked, File, HostState, file}
use Rattle.nt_tfile.specs.declared.failure.ReadFailure.{ReadFailure}
use Rattle.nt_tfile.specs.declared.failure.ReadFailure.TheVariants as failure
use Rattle.nt_show.specs.Shown.{Shown, shown_text}
use Rattle.nt_store.specs.Worlds.{IsThereWith, AsksFirst, KeepsFiles}
use Rattle.nt_app.specs.Statuses.{message_of}
use Rattle.nt_app.specs.Reports.{SaysOnErr, Served}
use Rattle.nt_app.specs.declared.status.Status.{Status}
use Rattle.nt_app.specs.declared.status.Status.TheVariants as status

-- the answer of a refusal
abbrev pub status_of_refusal : Refused → Status
status_of_refusal refused.Failed = status.Outside
status_of_refusal refused.Memory = status.Memory

-- the answer of a file that was shown, or of what came in place of that
abbrev pub status_of_shown : Result Unit ReadFailure → Status
status_of_shown (Ok value) = status.Done
status_of_shown (Err (failure.Defect e)) = status.File e
status_of_shown (Err failure.Fault) = status.Outside
status_of_shown (Err failure.Memory) = status.Memory

-- what is shown of a file that may not be there
abbrev pub shown_of : {V : Type 0} → Shown V → Option (List ℕ) → List ℕ
shown_of s None = []
shown_of s (Some bytes) = shown_text s bytes

-- out gained the front of a text
abbrev pub GainsFront : List ℕ → World → World → Type 0
GainsFront text w w' = (printed left : List ℕ) × (w'.out ≡ w.out ++ printed) × (text ≡ printed ++ left)

-- what out gained of a file that may not be there: all that is shown of what is read of it; what is shown before its first fault is told,
-- and exactly that fault is; or else a front of these
abbrev pub ShownTold : {V : Type 0} → Shown V → Option (List ℕ) → World → World → Status → Type 0
ShownTold {V} s found w w' status.Done =
    IsThereWith (λ bytes. (read : V) × (s.reading bytes ≡ Ok read) × (w'.out ≡ w.out ++ s.whole read)) found
ShownTold s found w w' (status.File e) =
    IsThereWith (λ bytes. (s.reading bytes ≡ Err e) × (w'.out ≡ w.out ++ s.before_fault bytes)) found
ShownTold s found w w' status.Outside = GainsFront (shown_of s found) w w'
ShownTold s found w w' status.Memory = GainsFront (shown_of s found) w w'
ShownTold s found w w' other = ⊥

-- what such a command asks for: all of it where it is done, and else the first of it
abbrev pub AsksAsDone : List Asked → List Asked → List Asked → Status → Type 0
AsksAsDone objects old new status.Done = new ≡ old ++ objects
AsksAsDone objects old new other = AsksFirst objects old new

-- the answers of such a command
abbrev pub IsAnswerOfReading : Status → Type 0
IsAnswerOfReading status.Done = ⊤
IsAnswerOfReading (status.File e) = ⊤
IsAnswerOfReading status.Outside = ⊤
IsAnswerOfReading status.Memory = ⊤
IsAnswerOfReading other = ⊥

-- the command before its message is printed
pub record ShowsNamed {V : Type 0} (s : Shown V) (name : List ℕ) (old new : HostState) (answer : Status) : Type 0 where
  -- where the host tells what it holds
  pub told : (w : World) → old.world ≡ Some w
      → (w' : World) × (new.world ≡ Some w') × (w'.err ≡ w.err) × KeepsFiles w w' × ShownTold s (file w name) w w' answer
  pub asked : AsksAsDone (File name ∷ []) old.asked new.asked answer
  pub answer_is : IsAnswerOfReading answer
  pub later : old.faults ≤ new.faults
  pub failed : answer ≡ status.Outside → Rose old.faults new.faults
  pub err_faults : new.err_faults ≡ old.err_faults
  pub opened : new.opened ≡ old.opened

-- the whole command
pub record Shows {V : Type 0} (s : Shown V) (name : List ℕ) (old new : HostState) (answer : Status) : Type 0 where
  -- where the host tells what it holds
  pub told : (w : World) → old.world ≡ Some w
      → (w' : World) × (new.world ≡ Some w') × SaysOnErr (message_of answer) old new w w' × KeepsFiles w w'
      × ShownTold s (file w name) w w' answer
  pub asked : AsksAsDone (File name ∷ []) old.asked new.asked answer
  -- done, a fault of the file, a failure of the outside, or want of memory
  pub answer_is : IsAnswerOfReading answer
  -- the outside is blamed only where it failed
  pub failed : answer ≡ status.Outside → Rose old.faults new.faults
  -- each object that was opened came back
  pub opened : new.opened ≡ old.opened
  -- where the outside serves, a file that is read is shown unless memory runs out
  pub complete : (w : World) (read : V) → old.world ≡ Some w → IsThereWith (λ bytes. s.reading bytes ≡ Ok read) (file w name)
      → Served old new → (answer ≡ status.Done) ⊎ (answer ≡ status.Memory)
  -- and any other has its first fault told
  pub refused : (w : World) (e : ReadError) → old.world ≡ Some w → IsThereWith (λ bytes. s.reading bytes ≡ Err e) (file w name)
      → Served old new → (answer ≡ status.File e) ⊎ (answer ≡ status.Memory)
