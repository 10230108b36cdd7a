-- XXH3 description, inputs of 17 to 240 bytes.
use Rattle.std.specs.Prelude.{ℕ, ◌+◌, ◌*◌, ◌-◌, ◌/◌, ◌%◌, ◌^◌, List, length}
use Rattle.nt_xxh3.specs.Primes.{P64_1}
use Rattle.nt_xxh3.specs.Steps.{mix, avalanche, sum_below}

-- the 16 bytes that stand i times 16 from the front, and those that stand so from the end
abbrev pub pair : List ℕ → ℕ → ℕ
pair bytes i = mix bytes (16 * i) (32 * i) + mix bytes (length bytes - 16 * (i + 1)) (32 * i + 16)

-- 17 to 128 bytes: a pair for each 32 bytes or part of them
unfoldable pub of_17_to_128 : List ℕ → ℕ
of_17_to_128 bytes = avalanche ((length bytes * P64_1 + sum_below ((length bytes + 31) / 32) (pair bytes)) % 2 ^ 64)

-- 129 to 240 bytes: eight times 16, then each further 16 with the secret from byte 3, then the last 16
unfoldable pub of_129_to_240 : List ℕ → ℕ
of_129_to_240 bytes =
    avalanche ((first + sum_below (length bytes / 16 - 8) (λ j. mix bytes (16 * (8 + j)) (16 * j + 3))
    + mix bytes (length bytes - 16) 119) % 2 ^ 64)
  where
    first : ℕ
    first = avalanche ((length bytes * P64_1 + sum_below 8 (λ i. mix bytes (16 * i) (16 * i))) % 2 ^ 64)
