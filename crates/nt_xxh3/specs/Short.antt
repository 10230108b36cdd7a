-- XXH3 description, inputs of 0 to 16 bytes.
use Rattle.std.specs.Prelude.{ℕ, ◌+◌, ◌*◌, ◌-◌, ◌/◌, ◌%◌, ◌^◌, List, length, slice_index, bit_xor, bit_or}
use Rattle.std.specs.Int.{w64, rotate_left, swap_bytes}
use Rattle.nt_xxh3.specs.declared.constants.TheConstants.{SECRET}
use Rattle.nt_xxh3.specs.Primes.{MX2}
use Rattle.nt_lists.specs.Places.{half_word_at, word_at}
use Rattle.nt_xxh3.specs.Steps.{xor_shift, avalanche_64, avalanche, fold}

-- no bytes: the secret alone
unfoldable pub of_none : ℕ
of_none = avalanche_64 (bit_xor (word_at SECRET 56) (word_at SECRET 64))

-- 1 to 3 bytes: the first, the middle and the last byte, and the length
unfoldable pub of_1_to_3 : List ℕ → ℕ
of_1_to_3 bytes = avalanche_64 (bit_xor joined (bit_xor (half_word_at SECRET 0) (half_word_at SECRET 4)))
  where
    first : ℕ
    first = slice_index bytes 0

    middle : ℕ
    middle = slice_index bytes (length bytes / 2)

    last : ℕ
    last = slice_index bytes (length bytes - 1)

    joined : ℕ
    joined = bit_or (bit_or (bit_or (first * 2 ^ 16) (middle * 2 ^ 24)) last) (length bytes * 2 ^ 8)

-- 4 to 8 bytes: the first four and the last four
unfoldable pub of_4_to_8 : List ℕ → ℕ
of_4_to_8 bytes = xor_shift (bit_xor turned (turned / 2 ^ 35 + length bytes) * MX2 % 2 ^ 64) 28
  where
    joined : ℕ
    joined =
        bit_xor (half_word_at bytes (length bytes - 4) + half_word_at bytes 0 * 2 ^ 32) (bit_xor (word_at SECRET 8) (word_at SECRET 16))

    turned : ℕ
    turned = bit_xor (bit_xor joined (rotate_left w64 joined 49)) (rotate_left w64 joined 24) * MX2 % 2 ^ 64

-- 9 to 16 bytes: the first eight and the last eight
unfoldable pub of_9_to_16 : List ℕ → ℕ
of_9_to_16 bytes = avalanche ((length bytes + swap_bytes w64 low + high + fold low high) % 2 ^ 64)
  where
    low : ℕ
    low = bit_xor (word_at bytes 0) (bit_xor (word_at SECRET 24) (word_at SECRET 32))

    high : ℕ
    high = bit_xor (word_at bytes (length bytes - 8)) (bit_xor (word_at SECRET 40) (word_at SECRET 48))
