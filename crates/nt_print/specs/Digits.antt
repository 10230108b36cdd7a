-- Digits of numbers, in texts and in words.
use Rattle.std.specs.Prelude.{ℕ, zero, suc, ◌+◌, ◌*◌, ◌/◌, ◌%◌, ◌^◌, List, [], ◌∷◌, ◌++◌}

-- the last so many digits of a number, and zeros where it has fewer
abbrev pub last_digits : ℕ → ℕ → List ℕ
last_digits zero n = []
last_digits (suc places) n = last_digits places (n / 10) ++ (48 + n % 10) ∷ []

-- these digits as the bytes of a word, the first as the lowest
abbrev pub digit_bytes : ℕ → ℕ → ℕ
digit_bytes zero n = 0
digit_bytes (suc places) n = digit_bytes places (n / 10) + n % 10 * 256 ^ places
