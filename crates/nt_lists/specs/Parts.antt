-- Parts of a list of bytes, each at its place.
use Rattle.std.specs.Prelude.{◌≡◌, ℕ, ◌+◌, List, [], ◌∷◌, length, map, take, drop}

-- bytes that stand at a place
pub record Part : Type 0 where
  pub place : ℕ
  pub bytes : List ℕ

-- each part begins where the one before it ends, the first one here: they lie in order, without overlap and without a gap
abbrev pub AreBehind : ℕ → List Part → Type 0
AreBehind place [] = Unit {0}
AreBehind place (p ∷ ps) = (p.place ≡ place) × AreBehind (place + length p.bytes) ps

-- the bytes of parts
abbrev pub part_bytes : List Part → List (List ℕ)
part_bytes parts = map (λ (p : Part). p.bytes) parts

-- how many bytes they have
abbrev pub joined_len : List Part → ℕ
joined_len [] = 0
joined_len (p ∷ ps) = length p.bytes + joined_len ps

-- these bytes stand in a list at a place
abbrev pub StandAt : List ℕ → ℕ → List ℕ → Type 0
StandAt whole at bytes = take (length bytes) (drop at whole) ≡ bytes
