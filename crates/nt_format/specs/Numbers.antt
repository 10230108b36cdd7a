-- RNTuple Binary Format Specification 1.0.0.0, section Basic Types: integers.
use Rattle.std.specs.Prelude.{ℕ, ℤ, ◌^◌, ◌<◌, List, Result}
use Rattle.std.specs.Int.{Width, w16, w32, w64, cast_unsigned, to_le_bytes}
use Rattle.nt_num.specs.Place.{At}
use Rattle.nt_format.specs.Reading.{Spells}

-- a number in two's complement, the lowest byte first
abbrev pub signed : Width → ℤ → List ℕ
signed w n = to_le_bytes w (cast_unsigned w n)

-- numbers of each width are read as they are spelled
pub record AreSpelled (reading : Width → At → Result (ℕ × At) ℕ) (spelling : Width → ℕ → List ℕ) : Type 0 where
  pub of_16 : Spells (reading w16) (spelling w16) (λ n. n < 2 ^ 16)
  pub of_32 : Spells (reading w32) (spelling w32) (λ n. n < 2 ^ 32)
  pub of_64 : Spells (reading w64) (spelling w64) (λ n. n < 2 ^ 64)
