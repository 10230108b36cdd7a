-- XXH3 description, inputs above 240 bytes: eight accumulators take stripes of 64 bytes, and are
-- scrambled after each block of 16 stripes.
use Rattle.std.specs.Prelude.{◌≡◌, ℕ, zero, suc, ◌+◌, ◌*◌, ◌-◌, ◌/◌, ◌%◌, ◌^◌, List, [], ◌∷◌, ◌++◌, length, take, drop, slice_index}
use Rattle.std.specs.Prelude.{bit_xor, nat_eq, if◌then◌else◌}
use Rattle.nt_xxh3.specs.declared.constants.TheConstants.{SECRET}
use Rattle.nt_xxh3.specs.Primes.{P32_1, P32_2, P32_3, P64_1, P64_2, P64_3, P64_4, P64_5}
use Rattle.nt_lists.specs.Places.{word_at}
use Rattle.nt_xxh3.specs.Steps.{xor_shift, fold, avalanche, sum_below}

-- the accumulators at the start
abbrev pub initial_lanes : List ℕ
initial_lanes = P32_3 ∷ P64_1 ∷ P64_2 ∷ P64_3 ∷ P64_4 ∷ P32_2 ∷ P64_5 ∷ P32_1 ∷ []

-- eight numbers by their places
abbrev pub eight : (ℕ → ℕ) → List ℕ
eight f = f 0 ∷ f 1 ∷ f 2 ∷ f 3 ∷ f 4 ∷ f 5 ∷ f 6 ∷ f 7 ∷ []

-- the low half of a word times its high half
abbrev pub halves : ℕ → ℕ
halves key = key % 2 ^ 32 * (key / 2 ^ 32)

-- accumulator i after a stripe, with the secret from a place: it gains its keyed word's halves multiplied, and its neighbour's word
unfoldable pub lane_after : List ℕ → List ℕ → ℕ → ℕ → ℕ
lane_after lanes stripe secret i =
    (slice_index lanes i + halves (bit_xor (word_at stripe (8 * i)) (word_at SECRET (secret + 8 * i)))
    + word_at stripe (8 * bit_xor i 1)) % 2 ^ 64

-- the accumulators after a stripe
unfoldable pub after_stripe : List ℕ → List ℕ → ℕ → List ℕ
after_stripe lanes stripe secret = eight (lane_after lanes stripe secret)

-- accumulator i, scrambled with the last 64 bytes of the secret
unfoldable pub lane_scrambled : List ℕ → ℕ → ℕ
lane_scrambled lanes i = bit_xor (xor_shift (slice_index lanes i) 47) (word_at SECRET (128 + 8 * i)) * P32_1 % 2 ^ 64

-- the accumulators after a block
unfoldable pub scrambled : List ℕ → List ℕ
scrambled lanes = eight (lane_scrambled lanes)

-- the accumulators after stripe k: it takes the secret from eight bytes for each stripe of its block before it; the 16th ends the block
unfoldable pub after : List ℕ → ℕ → List ℕ → List ℕ
after lanes k stripe = if nat_eq (k % 16) 15 then scrambled taken else taken
  where
    taken : List ℕ
    taken = after_stripe lanes stripe (8 * (k % 16))

-- stripe k of the input
abbrev pub stripe_at : List ℕ → ℕ → List ℕ
stripe_at bytes k = take 64 (drop (64 * k) bytes)

-- the accumulators after the first stripes of the input
unfoldable pub stripes : List ℕ → ℕ → List ℕ
stripes bytes zero = initial_lanes
stripes bytes (suc k) = after (stripes bytes k) k (stripe_at bytes k)

-- accumulators that had taken so many stripes take those of the bytes that follow
abbrev pub TakesStripes : List ℕ → ℕ → List ℕ → List ℕ → ℕ → Type 0
TakesStripes old taken bytes new total =
    (front : List ℕ) → length front ≡ 64 * taken → old ≡ stripes front taken → new ≡ stripes (front ++ bytes) total

-- two neighbouring accumulators, folded with the secret from byte 11 on
abbrev pub folded : List ℕ → ℕ → ℕ
folded lanes i =
    fold (bit_xor (slice_index lanes (2 * i)) (word_at SECRET (11 + 16 * i)))
    (bit_xor (slice_index lanes (2 * i + 1)) (word_at SECRET (19 + 16 * i)))

-- the checksum of an input of so many bytes, from its accumulators
unfoldable pub merged : ℕ → List ℕ → ℕ
merged len lanes = avalanche ((len * P64_1 + sum_below 4 (folded lanes)) % 2 ^ 64)

-- more than 240 bytes: each whole stripe that ends before the last byte, then the last 64 bytes with the secret from byte 121
unfoldable pub above_240 : List ℕ → ℕ
above_240 bytes =
    merged (length bytes) (after_stripe (stripes bytes ((length bytes - 1) / 64)) (drop (length bytes - 64) bytes) 121)
