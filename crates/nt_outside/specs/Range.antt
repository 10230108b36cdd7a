-- Ranges of a file that are written beside its other calls, their extents, and the pens that fill them.
use Rattle.std.specs.Prelude.{◌≡◌, ◌⊎◌, ℕ, ◌+◌, ◌≤◌, ◌==◌, Bool, true, false, ◌&&◌, if◌then◌else◌, List, [], ◌∷◌, length, Option, Some}
use Rattle.std.specs.Prelude.{Result, OnOk, OnErr}
use Rattle.nt_outside.specs.declared.fault.Failed.{Failed}
use Rattle.nt_outside.specs.Faults.{HasCause}
pub use Rattle.nt_outside.specs.declared.range.Range.{Range}

-- a place and so many bytes lie outside a range; one of no bytes stands in nobody's way
abbrev pub IsApart : ℕ → ℕ → Range → Type 0
IsApart at len range = (range.len ≡ 0) ⊎ ((at + len ≤ range.start) ⊎ (range.start + range.len ≤ at))

-- the same start and the same length
abbrev pub is_same_range : Range → Range → Bool
is_same_range one two = (one.start == two.start) && (one.len == two.len)

-- these ranges but for the first that is this one
abbrev pub without : Range → List Range → List Range
without range [] = []
without range (first ∷ rest) = if is_same_range first range then rest else first ∷ without range rest

pub record ExtState : Type 0 where
  -- its place in the file
  pub range : Range
  pub filled : Bool
  -- its bytes once it is filled, where it tells them
  pub content : Option (List ℕ)
  pub tells : Bool

pub record PenState : Type 0 where
  -- how often a fill has failed
  pub faults : ℕ

-- only a filled extent has bytes, and they are as many as it is long
pub record IsSized (ext : ExtState) (bytes : List ℕ) : Type 0 where
  pub filled : ext.filled ≡ true
  pub whole : length bytes ≡ ext.range.len

-- the extent has these bytes, or none after a failure
pub record Fills (bytes : List ℕ) (old new : ExtState) (pen pen' : PenState) (result : Result Unit Failed) : Type 0 where
  pub range : new.range ≡ old.range
  pub tells : new.tells ≡ old.tells
  pub ok : OnOk result (new.filled ≡ true)
  pub told : OnOk result (old.tells ≡ true → new.content ≡ Some bytes)
  pub err : OnErr result ((new.filled ≡ false) × (new.content ≡ old.content))
  pub cause : HasCause pen.faults pen'.faults result
  -- a fill that didn't fail counts no fault
  pub kept : OnOk result (pen'.faults ≡ pen.faults)
