-- The accumulators as the lanes of a vector.
use Rattle.std.proofs.Common.{◌≡◌, ℕ, ◌+◌, ◌*◌, ◌/◌, ◌%◌, ◌^◌, ◌-◌, List, [], ◌∷◌, ◌++◌, length, slice_index}
use Rattle.std.proofs.Common.{bit_and, bit_xor, refl, ap, ◌∙◌, arith}
use Rattle.std.proofs.lemmas.Nat.{and_mask}
use lib.Lanes.{zip2}
use Rattle.nt_lists.specs.Places.{word_at}
use Rattle.nt_xxh3.specs.declared.constants.TheConstants.{SECRET}
use Rattle.nt_xxh3.specs.Primes.{P32_1}
use Rattle.nt_xxh3.specs.Long.{eight, halves, lane_after, after_stripe, lane_scrambled, scrambled}

-- eight numbers that are the same at each place
eight_same : (f g : ℕ → ℕ) → ((i : ℕ) → f i ≡ g i) → eight f ≡ eight g
eight_same f g same = rw (same 0, same 1, same 2, same 3, same 4, same 5, same 6, same 7) refl

-- eight lanes are those at their places
eight_lanes : (xs : List ℕ) → length xs ≡ 8 → xs ≡ eight (slice_index xs)
eight_lanes [] len = absurd (omega (arith, len))
eight_lanes (a ∷ []) len = absurd (omega (arith, len))
eight_lanes (a ∷ b ∷ []) len = absurd (omega (arith, len))
eight_lanes (a ∷ b ∷ c ∷ []) len = absurd (omega (arith, len))
eight_lanes (a ∷ b ∷ c ∷ d ∷ []) len = absurd (omega (arith, len))
eight_lanes (a ∷ b ∷ c ∷ d ∷ e ∷ []) len = absurd (omega (arith, len))
eight_lanes (a ∷ b ∷ c ∷ d ∷ e ∷ f ∷ []) len = absurd (omega (arith, len))
eight_lanes (a ∷ b ∷ c ∷ d ∷ e ∷ f ∷ g ∷ []) len = absurd (omega (arith, len))
eight_lanes (a ∷ b ∷ c ∷ d ∷ e ∷ f ∷ g ∷ h ∷ []) len = refl
eight_lanes (a ∷ b ∷ c ∷ d ∷ e ∷ f ∷ g ∷ h ∷ i ∷ xs) len = absurd (omega (arith, len))

-- sums of lanes, which wrap
abbrev sums : List ℕ → List ℕ → List ℕ
sums = zip2 (λ x y. (x + y) % 2 ^ 64)

-- products of lanes, which wrap
abbrev products : List ℕ → List ℕ → List ℕ
products = zip2 (λ x y. x * y % 2 ^ 64)

-- lanes shifted to the right
abbrev shifted : List ℕ → List ℕ → List ℕ
shifted = zip2 (λ x y. x / 2 ^ y)

-- wrapped twice or once, a sum is the same
sum_once : (word product neighbour : ℕ) → ((word + product % 2 ^ 64) % 2 ^ 64 + neighbour) % 2 ^ 64 ≡ (word + product + neighbour) % 2 ^ 64
sum_once word product neighbour = omega arith

-- a lane that gains the halves of a key
lane_gains : (word key neighbour : ℕ)
    → ((word + bit_and key (2 ^ 32 - 1) * (key / 2 ^ 32) % 2 ^ 64) % 2 ^ 64 + neighbour) % 2 ^ 64 ≡ (word + halves key + neighbour) % 2 ^ 64
lane_gains word key neighbour = rw (and_mask key 32) (sum_once word (halves key) neighbour)

-- the vector that a stripe makes, of its own words and the secret's
abbrev gained : List ℕ → List ℕ → List ℕ → List ℕ
gained words input secrets = sums (sums words (products lows highs)) neighbours
  where
    keys : List ℕ
    keys = zip2 bit_xor input secrets

    lows : List ℕ
    lows = zip2 bit_and keys (eight (λ _. 2 ^ 32 - 1))

    highs : List ℕ
    highs = shifted keys (eight (λ _. 32))

    neighbours : List ℕ
    neighbours = eight (λ i. slice_index (input ++ input) (bit_xor i 1))

-- a stripe, lane by lane
pub after_stripe_lanes : (words stripe input secrets : List ℕ) (secret : ℕ) → length words ≡ 8
    → input ≡ eight (λ i. word_at stripe (0 + 8 * i)) → secrets ≡ eight (λ i. word_at SECRET (secret + 8 * i))
    → gained words input secrets ≡ after_stripe words stripe secret
unfolding after_stripe lane_after
after_stripe_lanes words stripe input secrets secret len input_is secrets_are =
    let mixed : ℕ → ℕ = λ i. bit_xor (word_at stripe (8 * i)) (word_at SECRET (secret + 8 * i)) in
    let words_in : List ℕ = eight (λ i. word_at stripe (0 + 8 * i)) in
    let words_of_secret : List ℕ = eight (λ i. word_at SECRET (secret + 8 * i)) in
    rw (input_is, secrets_are)
    (ap (λ (w : List ℕ). gained w words_in words_of_secret) (eight_lanes words len)
    ∙ eight_same _ (lane_after words stripe secret)
    (λ i. lane_gains (slice_index words i) (mixed i) (word_at stripe (8 * bit_xor i 1))))

-- the vector that the end of a block makes, with the words of the secret
abbrev mixed_up : List ℕ → List ℕ → List ℕ
mixed_up words secrets = products (zip2 bit_xor (zip2 bit_xor words (shifted words (eight (λ _. 47)))) secrets) (eight (λ _. P32_1))

-- the end of a block, lane by lane
pub scrambled_lanes : (words secrets : List ℕ) → length words ≡ 8 → secrets ≡ eight (λ i. word_at SECRET (128 + 8 * i))
    → mixed_up words secrets ≡ scrambled words
unfolding scrambled lane_scrambled
scrambled_lanes words secrets len secrets_are =
    rw secrets_are (ap (λ (w : List ℕ). mixed_up w (eight (λ i. word_at SECRET (128 + 8 * i)))) (eight_lanes words len))
