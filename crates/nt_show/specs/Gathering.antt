-- Bytes that wait to be printed on out, and what the gathering of more leaves of a host.
use Rattle.std.specs.Prelude.{◌≡◌, ◌⊎◌, ℕ, ◌≤◌, List, ◌++◌, Option, Some, Result, IsErrOf}
use Rattle.nt_outside.specs.declared.fault.Refused.{Refused}
use Rattle.nt_outside.specs.declared.fault.Refused.TheVariants.{Failed}
use Rattle.nt_outside.specs.declared.stream.Stream.TheVariants.{ToOut}
use Rattle.nt_outside.specs.Faults.{Rose}
use Rattle.nt_outside.specs.File.{FileState}
use Rattle.nt_outside.specs.World.{World, HostState, prints}

-- of what waited and a text behind it some was printed, and this is left
abbrev pub PrintsSome : List ℕ → Option World → List ℕ → Option World → List ℕ → Type 0
PrintsSome text old waiting new left =
    (w : World) → old ≡ Some w → (printed : List ℕ) × (new ≡ Some (prints ToOut printed w)) × (waiting ++ text ≡ printed ++ left)

-- the same, and nothing is said of what is left
abbrev pub GathersPart : List ℕ → Option World → List ℕ → Option World → Type 0
GathersPart text old waiting new =
    (w : World) → old ≡ Some w → (printed left : List ℕ) × (new ≡ Some (prints ToOut printed w)) × (waiting ++ text ≡ printed ++ left)

-- nothing happened to a host but prints on out
pub record OnlyPrints (old new : HostState) : Type 0 where
  pub asked : new.asked ≡ old.asked
  pub err_faults : new.err_faults ≡ old.err_faults
  pub opened : new.opened ≡ old.opened

-- the counts of a host and of a file never fall, and one of them rose where the outside failed
pub record HasCauses {V : Type 0} (old new : HostState) (file file' : FileState) (result : Result V Refused) : Type 0 where
  pub later : old.faults ≤ new.faults
  pub file_later : file.faults ≤ file'.faults
  pub failed : IsErrOf result Failed → Rose old.faults new.faults ⊎ Rose file.faults file'.faults
