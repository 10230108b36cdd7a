-- XXH3 description, the steps that several lengths share. Sums and products of 64-bit words are
-- modulo 2 ^ 64, and words are read with the lowest byte first.
use Rattle.std.specs.Prelude.{ℕ, zero, suc, ◌+◌, ◌*◌, ◌/◌, ◌%◌, ◌^◌, List, bit_xor}
use Rattle.nt_lists.specs.Places.{word_at}
use Rattle.nt_xxh3.specs.declared.constants.TheConstants.{SECRET}
use Rattle.nt_xxh3.specs.Primes.{P64_2, P64_3, MX1}

-- a word, exclusive or itself shifted to the right
abbrev pub xor_shift : ℕ → ℕ → ℕ
xor_shift hash by = bit_xor hash (hash / 2 ^ by)

-- the avalanche of XXH64
unfoldable pub avalanche_64 : ℕ → ℕ
avalanche_64 hash = xor_shift (xor_shift (xor_shift hash 33 * P64_2 % 2 ^ 64) 29 * P64_3 % 2 ^ 64) 32

-- the avalanche of XXH3
unfoldable pub avalanche : ℕ → ℕ
avalanche hash = xor_shift (xor_shift hash 37 * MX1 % 2 ^ 64) 32

-- the exclusive or of the two halves of the 128-bit product
unfoldable pub fold : ℕ → ℕ → ℕ
fold a b = bit_xor (a * b % 2 ^ 64) (a * b / 2 ^ 64)

-- 16 bytes of the input from a place, mixed with 16 bytes of the secret from another
unfoldable pub mix : List ℕ → ℕ → ℕ → ℕ
mix bytes at secret =
    fold (bit_xor (word_at bytes at) (word_at SECRET secret)) (bit_xor (word_at bytes (at + 8)) (word_at SECRET (secret + 8)))

-- f 0 + f 1 + .. + f (n - 1)
abbrev pub sum_below : ℕ → (ℕ → ℕ) → ℕ
sum_below zero f = 0
sum_below (suc n) f = sum_below n f + f n
