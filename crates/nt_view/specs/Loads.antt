-- Pages that are loaded from a file: of each its bytes with its checksum, or the first fault.
-- RNTuple Binary Format Specification 1.0.0.0, section Page Locations.
use Rattle.std.specs.Prelude.{ℕ, ◌≡◌, ◌+◌, ◌≤◌, List, [], ◌∷◌, take, Some, Result, Ok, Err, IsErrOf}
use Rattle.nt_lists.specs.Chaining.{◌>>=◌}
use Rattle.nt_xxh3.specs.Sum.{xxh3}
use Rattle.nt_format.specs.Demands.{demand, found_or}
use Rattle.nt_format.specs.Pieces.{piece}
use Rattle.nt_view.specs.Stored.{len_with_sum, sum_behind, has_its_sum}
use Rattle.nt_outside.specs.File.{FileState}
use Rattle.nt_outside.specs.Faults.{Rose}
use Rattle.nt_view.specs.declared.page_place.PagePlace.{PagePlace}
use Rattle.nt_view.specs.declared.page_place.ZeroColumn.{ZeroColumn}
use Rattle.nt_view.specs.declared.fault.ViewFault.{ViewFault}
use Rattle.nt_view.specs.declared.fault.ViewFault.TheVariants.{OutOfFile, Checksum, Fault, Memory}
use Rattle.nt_view.specs.Loaded.{Loaded, loaded_with}

-- the bytes of a page with its checksum, if it has one
abbrev pub loaded_len : PagePlace → ℕ
loaded_len p = len_with_sum p.checked p.size

-- the page of this number has another checksum
abbrev pub sum_differs : ℕ → PagePlace → List ℕ → ViewFault
sum_differs i p stored = Checksum i (sum_behind p.size stored) (xxh3 (take p.size stored))

-- the page of this number has to lie in the file
abbrev pub found_bytes : List ℕ → ℕ → PagePlace → Result (List ℕ) ViewFault
found_bytes file i p = found_or (OutOfFile i) (piece file p.place (loaded_len p))

-- and to have its checksum
abbrev pub checked_bytes : ℕ → PagePlace → List ℕ → Result (List ℕ) ViewFault
checked_bytes i p stored = demand (has_its_sum p.checked p.size stored) (sum_differs i p stored) >>= λ u. Ok stored

-- the bytes of a page with its checksum, as they are stored
abbrev pub page_found : List ℕ → ℕ → PagePlace → Result (List ℕ) ViewFault
page_found file i p = found_bytes file i p >>= checked_bytes i p

-- those of pages whose numbers go on from this one
abbrev pub pages_found : List ℕ → ℕ → List PagePlace → Result (List (List ℕ)) ViewFault
pages_found file i [] = Ok []
pages_found file i (p ∷ ps) = page_found file i p >>= λ first. pages_found file (i + 1) ps >>= λ others. Ok (first ∷ others)

-- what a file gives of pages and of columns of zeros
abbrev pub load_of : List ℕ → List PagePlace → List ZeroColumn → Result Loaded ViewFault
load_of file ps zs = pages_found file 0 ps >>= λ stored. Ok (loaded_with ps stored zs)

-- a call answers what a file gives, but for a fault of the outside and want of memory
abbrev pub IsLoadedAs : {V W : Type 0} → (V → W) → Result V ViewFault → Result W ViewFault → Type 0
IsLoadedAs view (Ok value) reading = reading ≡ Ok (view value)
IsLoadedAs view (Err (OutOfFile i)) reading = reading ≡ Err (OutOfFile i)
IsLoadedAs view (Err (Checksum i kept found)) reading = reading ≡ Err (Checksum i kept found)
IsLoadedAs view (Err Fault) reading = Unit {0}
IsLoadedAs view (Err Memory) reading = Unit {0}

-- the same of the bytes of a file that tells them
abbrev pub LoadsFile : {V W : Type 0} → (V → W) → (List ℕ → Result W ViewFault) → FileState → Result V ViewFault → Type 0
LoadsFile view reading file result = (told : List ℕ) → file.bytes ≡ Some told → IsLoadedAs view result (reading told)

-- the file keeps its bytes, and an answer of a fault comes only where its count rose
pub record ServesView {V : Type 0} (old new : FileState) (result : Result V ViewFault) : Type 0 where
  pub same : new.bytes ≡ old.bytes
  pub later : old.faults ≤ new.faults
  pub fault : IsErrOf result Fault → Rose old.faults new.faults
