-- Characters of ASCII that stand for themselves in a string.
use Rattle.std.specs.Prelude.{ℕ, ◌<◌, List, [], ◌∷◌, ⊤}
use Rattle.nt_event.specs.Plain.{Plain}

-- a byte that is one
pub record Simple (x : ℕ) : Type 0 where
  pub plain : Plain x
  pub ascii : x < 128

-- all of them
abbrev pub AllSimple : List ℕ → Type 0
AllSimple [] = ⊤
AllSimple (x ∷ xs) = Simple x × AllSimple xs
