-- A file in memory.
use Rattle.std.specs.Prelude.{◌≡◌, ◌<◌, ◌^◌, ℕ, List, All, Some}
use Rattle.std.proofs.Common.{subst}
use Rattle.nt_outside.specs.File.{FileState}
use Rattle.nt_memory.specs.declared.tally.Tally.{Tally}
use Rattle.nt_memory.specs.declared.file.MemFile.{MemFile}

-- its bytes and its faults
abbrev pub state_of : MemFile → FileState
state_of file = record { bytes = Some file.bytes; faults = file.tally.faults }

-- its calls
abbrev pub tally_of : MemFile → Tally
tally_of file = file.tally

some_is : (x y : List ℕ) → Some x ≡ Some y → x ≡ y
some_is x y e = cc

-- each of its bytes is one
pub fit_of : (file : MemFile) (told : List ℕ) → (state_of file).bytes ≡ Some told → All (λ (b : ℕ). b < 2 ^ 8) told
fit_of file told is = subst (All (λ (b : ℕ). b < 2 ^ 8)) (some_is file.bytes told is) file.fit
