-- What the command `scan` does to a host, by its answer.
use Rattle.std.specs.Prelude.{⊤, ◌≡◌, ◌⊎◌, ℕ, ◌≤◌, List, [], ◌∷◌, ◌++◌, Option, Some, None, Result, Ok, Err, IsErrOf}
use Rattle.nt_num.specs.declared.fault.ReadError.{ReadError}
use Rattle.nt_types.specs.TreeData.{TreesData}
use Rattle.nt_grammar.specs.Table.{Table}
use Rattle.nt_outside.specs.Faults.{Rose}
use Rattle.nt_outside.specs.World.{World, File, HostState, file}
use Rattle.nt_file_meaning.specs.Outlines.{Outline, outline_of}
use Rattle.nt_file_meaning.specs.Files.{Means}
use Rattle.nt_show.specs.Gathering.{OnlyPrints}
use Rattle.nt_scan.specs.declared.error.ScanError.{ScanError}
use Rattle.nt_scan.specs.declared.error.ScanError.TheVariants.{TooMany, Defect, Fault, Memory}
use Rattle.nt_scan.specs.Leaves.{leaves_of, leaf_columns}
use Rattle.nt_scan.specs.Counts.{most_elements, IsFirstTooMany}
use Rattle.nt_scan.specs.Scans.{ScansAs}
use Rattle.nt_store.specs.Worlds.{IsThereWith, KeepsFiles}
use Rattle.nt_app.specs.declared.status.Status.{Status}
use Rattle.nt_app.specs.declared.status.Status.TheVariants as status
use Rattle.nt_app.specs.Statuses.{message_of}
use Rattle.nt_app.specs.Reports.{SaysOnErr, Served}
use Rattle.nt_app.specs.Shows.{AsksAsDone}

-- the answer in place of the lines of a scan
abbrev pub status_of_scan_error : ScanError → Status
status_of_scan_error (TooMany column reached) = status.Limit reached most_elements
status_of_scan_error (Defect e) = status.File e
status_of_scan_error Fault = status.Outside
status_of_scan_error Memory = status.Memory

-- the answer of a scan: its lines were printed, or the outside failed at that; or it had none
abbrev pub AnswersScan : Result (List ℕ) ScanError → Status → Type 0
AnswersScan (Ok lines) answer = (answer ≡ status.Done) ⊎ (answer ≡ status.Outside)
AnswersScan (Err e) answer = answer ≡ status_of_scan_error e

-- what was printed of a scan before its answer: all of its lines, or their front where the outside failed; of one without lines nothing
abbrev pub IsPrintedOfScan : Result (List ℕ) ScanError → List ℕ → Status → Type 0
IsPrintedOfScan (Ok lines) printed status.Done = printed ≡ lines
IsPrintedOfScan (Ok lines) printed other = (left : List ℕ) × (lines ≡ printed ++ left)
IsPrintedOfScan (Err e) printed answer = printed ≡ []

-- the lines of a scan were printed, or there were none
pub record PrintsScan (scanned : Result (List ℕ) ScanError) (old new : HostState) (answer : Status) : Type 0 where
  pub told : (w : World) → old.world ≡ Some w → (w' : World) × (new.world ≡ Some w') × (w'.err ≡ w.err) × KeepsFiles w w'
      × ((printed : List ℕ) × (w'.out ≡ w.out ++ printed) × IsPrintedOfScan scanned printed answer)
  pub answers : AnswersScan scanned answer
  pub later : old.faults ≤ new.faults
  pub failed : answer ≡ status.Outside → Rose old.faults new.faults ⊎ IsErrOf scanned Fault
  pub rest : OnlyPrints old new

-- a file means a schema and entries, and these are the lines of its number leaves
abbrev pub HasLines : List ℕ → List ℕ → Type 0
HasLines bytes lines = ((t : Table) × (entries : List (List TreesData)) × Means bytes t entries) × ScansAs bytes (Ok lines)

-- a number leaf of a file has too many elements, and of the lowest such column this is the first count that is too large
abbrev pub HasTooMany : List ℕ → ℕ → Type 0
HasTooMany bytes reached = (column : ℕ) × ScansAs bytes (Err (TooMany column reached))

-- a file means a schema and entries, and no number leaf has too many elements
pub record CanBeTotalled (bytes : List ℕ) : Type 0 where
  pub t : Table
  pub entries : List (List TreesData)
  pub means : Means bytes t entries
  pub few : (o : Outline) → outline_of bytes ≡ Ok o → IsFirstTooMany o (leaf_columns (leaves_of o.table)) None

-- out gained the front of the lines of a file, and nothing of one that has none
abbrev pub GainsLinesFront : Option (List ℕ) → World → World → Type 0
GainsLinesFront found w w' =
    (printed : List ℕ) × (w'.out ≡ w.out ++ printed)
    × ((printed ≡ []) ⊎ IsThereWith (λ bytes. (lines left : List ℕ) × HasLines bytes lines × (lines ≡ printed ++ left)) found)

-- what out gained of a file that may not be there: the lines of its number leaves; nothing, where one has too many elements or the file
-- has a fault, and exactly that is told; or else the front of the lines
abbrev pub ScanTold : Option (List ℕ) → World → World → Status → Type 0
ScanTold found w w' status.Done = IsThereWith (λ bytes. (lines : List ℕ) × HasLines bytes lines × (w'.out ≡ w.out ++ lines)) found
ScanTold found w w' (status.File e) = IsThereWith (λ bytes. ScansAs bytes (Err (Defect e))) found × (w'.out ≡ w.out)
ScanTold found w w' (status.Limit reached limit) =
    IsThereWith (λ bytes. HasTooMany bytes reached) found × (limit ≡ most_elements) × (w'.out ≡ w.out)
ScanTold found w w' status.Outside = GainsLinesFront found w w'
ScanTold found w w' status.Memory = GainsLinesFront found w w'
ScanTold found w w' other = ⊥

-- the answers of `scan`
abbrev pub IsAnswerOfScan : Status → Type 0
IsAnswerOfScan status.Done = ⊤
IsAnswerOfScan (status.File e) = ⊤
IsAnswerOfScan status.Outside = ⊤
IsAnswerOfScan (status.Limit reached limit) = ⊤
IsAnswerOfScan status.Memory = ⊤
IsAnswerOfScan other = ⊥

-- the command before its message is printed
pub record ScansNamed (name : List ℕ) (old new : HostState) (answer : Status) : Type 0 where
  -- where the host tells what it holds
  pub told : (w : World) → old.world ≡ Some w
      → (w' : World) × (new.world ≡ Some w') × (w'.err ≡ w.err) × KeepsFiles w w' × ScanTold (file w name) w w' answer
  pub asked : AsksAsDone (File name ∷ []) old.asked new.asked answer
  pub answer_is : IsAnswerOfScan answer
  pub later : old.faults ≤ new.faults
  pub failed : answer ≡ status.Outside → Rose old.faults new.faults
  pub err_faults : new.err_faults ≡ old.err_faults
  pub opened : new.opened ≡ old.opened

-- the words were `scan FILE`
pub record RunsScan (name : List ℕ) (old new : HostState) (answer : Status) : Type 0 where
  -- where the host tells what it holds
  pub told : (w : World) → old.world ≡ Some w
      → (w' : World) × (new.world ≡ Some w') × SaysOnErr (message_of answer) old new w w' × KeepsFiles w w'
      × ScanTold (file w name) w w' answer
  pub asked : AsksAsDone (File name ∷ []) old.asked new.asked answer
  -- done, a fault of the file, too many elements, a failure of the outside, or want of memory
  pub answer_is : IsAnswerOfScan answer
  -- the outside is blamed only where it failed
  pub failed : answer ≡ status.Outside → Rose old.faults new.faults
  -- each object that was opened came back
  pub opened : new.opened ≡ old.opened
  -- where the outside serves, a file that can be totalled is, unless memory runs out
  pub complete : (w : World) → old.world ≡ Some w → IsThereWith CanBeTotalled (file w name) → Served old new
      → (answer ≡ status.Done) ⊎ (answer ≡ status.Memory)
  -- of one with too many elements the count is told
  pub limited : (w : World) (reached : ℕ) → old.world ≡ Some w → IsThereWith (λ bytes. HasTooMany bytes reached) (file w name)
      → Served old new → (answer ≡ status.Limit reached most_elements) ⊎ (answer ≡ status.Memory)
  -- and of any other the first fault
  pub refused : (w : World) (e : ReadError) → old.world ≡ Some w → IsThereWith (λ bytes. ScansAs bytes (Err (Defect e))) (file w name)
      → Served old new → (answer ≡ status.File e) ⊎ (answer ≡ status.Memory)
