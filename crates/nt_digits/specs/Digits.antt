-- Digits that stand in a text, and in the bytes of a word.
use Rattle.std.specs.Prelude.{ℕ, zero, suc, ◌≡◌, ◌≤◌, length, ◌+◌, ◌*◌, ◌/◌, ◌%◌, ◌<◌, List, [], ◌∷◌, ⊤}
use Rattle.std.specs.List.{slice_range}
use Rattle.std.specs.Str.Parse.{AllDigits, digits_value}

-- up to 19 digits stand from one place to another, and are this number
pub record DigitsStand (text : List ℕ) (at end n : ℕ) : Type 0 where
  pub value : n ≡ digits_value 10 (slice_range text at end)
  pub digits : AllDigits 10 (slice_range text at end)
  pub past : at ≤ end
  pub within : end ≤ length text
  pub few : end ≤ at + 19

-- bytes as a number, the first as the lowest
abbrev pub low_first : List ℕ → ℕ
low_first [] = 0
low_first (b ∷ bs) = b + 256 * low_first bs

-- so many of the lowest bytes are digits, below ten
abbrev pub AreDigits : ℕ → ℕ → Type 0
AreDigits zero n = ⊤
AreDigits (suc k) n = (n % 256 < 10) × AreDigits k (n / 256)

-- the number that so many of the lowest bytes spell as digits, the lowest first, behind those of another
abbrev pub number_behind : ℕ → ℕ → ℕ → ℕ
number_behind zero before n = before
number_behind (suc k) before n = number_behind k (before * 10 + n % 256) (n / 256)
