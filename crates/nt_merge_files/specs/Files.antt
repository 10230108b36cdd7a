-- Files of a host that are opened, and come back.
use Rattle.std.specs.Prelude.{◌≡◌, ℕ, List, map, Option, Some}
use Rattle.nt_outside.specs.Source.{SourceState}
use Rattle.nt_outside.specs.File.{FileState}
use Rattle.nt_outside.specs.World.{World, HostState, file}
use Rattle.nt_store.specs.Worlds.{AreOpenTexts, PutsTexts}

-- a file as a text: what it tells, and its faults, which a host takes in alike
abbrev pub as_text : FileState → SourceState
as_text f = record { left = f.bytes; faults = f.faults }

module _ {F : Type 0} (state : F → FileState) where
  abbrev pub as_texts : List F → List SourceState
  as_texts files = map (λ (f : F). as_text (state f)) files

  -- files just opened have the bytes of their names, and no fault
  abbrev pub AreOpenFiles : Option World → List (List ℕ) → List F → Type 0
  AreOpenFiles world names files = AreOpenTexts world names (as_texts files)

  -- files came back, and their faults are the host's from now on
  abbrev pub ReturnsFiles : List F → HostState → HostState → Type 0
  ReturnsFiles files old new = PutsTexts (as_texts files) old new

-- a host has files with these bytes under these names
abbrev pub AreThere : World → List (List ℕ) → List (List ℕ) → Type 0
AreThere w names bytes = map (file w) names ≡ map (λ (b : List ℕ). Some b) bytes

-- it has, and their bytes have this
pub record AreThereWith (P : List (List ℕ) → Type 0) (w : World) (names : List (List ℕ)) : Type 0 where
  pub bytes : List (List ℕ)
  pub there : AreThere w names bytes
  pub has : P bytes
