-- Numbers of 16 bits and strings, and texts of several parts.
use Rattle.std.proofs.Common.{◌≡◌, ℕ, ◌+◌, ◌^◌, ◌<◌, List, ◌++◌, length, refl, ap, ◌∙◌}
use Rattle.std.specs.Int.{w16, to_le_bytes, from_le_bytes}
use Rattle.nt_num.specs.Place.{At}
use Rattle.nt_num.specs.Cursor.{little}
use Rattle.nt_format.specs.Reading.{placed, IsBytes}
use Rattle.nt_format.specs.Strings.{string, string_at}
use Rattle.nt_format.specs.Grammars.{Spelled}
use Rattle.nt_format.specs.Relations.{Agrees, Stands}
use Rattle.nt_format.proofs.Numbers.{number_spells, little_16}
use Rattle.nt_format.proofs.Strings.{string_spells}
use Rattle.nt_format.proofs.Grammars.{spelled}
use Rattle.nt_format.proofs.Relations.{at}
use Rattle.nt_payloads.proofs.Texts.{Both}
use Rattle.nt_payloads.proofs.Tests.{placing}

-- a number of 16 bits
abbrev pub Word16 : ℕ → List ℕ → ℕ → Type 0
Word16 place = Spelled (to_le_bytes w16) (λ n. n < 2 ^ 16)

pub word16 : (here : At) → IsBytes here.left → Agrees (placed (little w16 here)) (Stands (Word16 here.place) here)
word16 here bytes = placing
    (at (spelled (little w16) (to_le_bytes w16) (λ n. n < 2 ^ 16)
    (number_spells 2 (2 ^ 16) (from_le_bytes w16) (to_le_bytes w16) little_16)) here bytes)

-- a string
abbrev pub Str : ℕ → List ℕ → List ℕ → Type 0
Str place = Spelled string (λ text. length text < 2 ^ 32)

pub str : (here : At) → IsBytes here.left → Agrees (placed (string_at here)) (Stands (Str here.place) here)
str here bytes = placing (at (spelled string_at string (λ text. length text < 2 ^ 32) string_spells) here bytes)

-- two texts, one behind the other
pub both : {V W : Type 0} {First : ℕ → List ℕ → V → Type 0} {Second : V → ℕ → List ℕ → W → Type 0} {place : ℕ} {value : W} (head : V)
    (first second : List ℕ)
    → First place first head → Second head (place + length first) second value → Both First Second place (first ++ second) value
both head first second f s = record { head = head; first = first; second = second; parts = refl; is_first = f; is_second = s }

-- a text of two parts whose parts are these
pub two : (text a b c d : List ℕ) → text ≡ a ++ b → a ≡ c → b ≡ d → text ≡ c ++ d
two text a b c d p q r = p ∙ ap (λ (x : List ℕ). x ++ b) q ∙ ap (λ (x : List ℕ). c ++ x) r
