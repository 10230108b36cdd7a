-- The number that eight digits spell: of two, of four, and of all.
use Rattle.std.proofs.Common.{◌≡◌, ℕ, ◌+◌, ◌*◌, ◌/◌, ◌%◌, ◌<◌, ap, ◌∙◌, arith}
use Rattle.std.proofs.lemmas.Nat.{and_block, and_mask}
use Rattle.std.specs.Int.Bits.{bit_and}

-- the lower of two bytes below others
lower : (x y z m : ℕ) → x < 256 → y < 256 → bit_and (z * 65536 + (x + 256 * y)) (m * 65536 + 255) ≡ bit_and z m * 65536 + x
lower x y z m p q =
    let low : (x + 256 * y) % 256 ≡ x = omega (arith, p) in
    and_block 16 z m (x + 256 * y) 255 (omega (arith, p, q)) (omega arith)
    ∙ ap (λ r. bit_and z m * 65536 + r) (and_mask (x + 256 * y) 8 ∙ low)

lower-last : (x y : ℕ) → x < 256 → bit_and (x + 256 * y) 255 ≡ x
lower-last x y p =
    let low : (x + 256 * y) % 256 ≡ x = omega (arith, p) in
    and_mask (x + 256 * y) 8 ∙ low

lower-four : (a b c d e f g h : ℕ) → a < 256 → b < 256 → c < 256 → d < 256 → e < 256 → f < 256 → g < 256
    → bit_and ((((g + 256 * h) * 65536 + (e + 256 * f)) * 65536 + (c + 256 * d)) * 65536 + (a + 256 * b)) 71777214294589695
    ≡ ((g * 65536 + e) * 65536 + c) * 65536 + a
lower-four a b c d e f g h pa pb pc pd pe pf pg =
    lower a b (((g + 256 * h) * 65536 + (e + 256 * f)) * 65536 + (c + 256 * d)) 1095233372415 pa pb
    ∙ ap (λ n. n * 65536 + a) (lower c d ((g + 256 * h) * 65536 + (e + 256 * f)) 16711935 pc pd
    ∙ ap (λ n. n * 65536 + c) (lower e f (g + 256 * h) 255 pe pf ∙ ap (λ n. n * 65536 + e) (lower-last g h pg)))

-- the lower two of four bytes, twice
lower-two : (a b c d : ℕ) → a < 65536 → b < 65536 → c < 65536
    → bit_and (((d * 65536 + c) * 65536 + b) * 65536 + a) 281470681808895 ≡ c * 4294967296 + a
lower-two a b c d pa pb pc =
    let cut : ((d * 65536 + c) * 65536 + b) * 65536 + a ≡ (d * 65536 + c) * 4294967296 + (b * 65536 + a) = omega arith in
    let high : (d * 65536 + c) % 65536 ≡ c = omega (arith, pc) in
    let low : (b * 65536 + a) % 65536 ≡ a = omega (arith, pa) in
    ap (λ n. bit_and n 281470681808895) cut
    ∙ and_block 32 (d * 65536 + c) 65535 (b * 65536 + a) 65535 (omega (arith, pa, pb)) (omega arith)
    ∙ ap (λ n. n * 4294967296 + bit_and (b * 65536 + a) 65535) (and_mask (d * 65536 + c) 16 ∙ high)
    ∙ ap (λ n. c * 4294967296 + n) (and_mask (b * 65536 + a) 16 ∙ low)

-- two digits of each pair of bytes, four of each two pairs, and all eight
pub eight-spell : (a b c d e f g h : ℕ) → a < 10 → b < 10 → c < 10 → d < 10 → e < 10 → f < 10 → g < 10 → h < 10
    → (n p q : ℕ) → n ≡ ((((((h * 256 + g) * 256 + f) * 256 + e) * 256 + d) * 256 + c) * 256 + b) * 256 + a
    → p ≡ bit_and (n * 10 + n / 256) 71777214294589695 → q ≡ bit_and (p * 100 + p / 65536) 281470681808895
    → q % 4294967296 * 10000 + q / 4294967296 ≡ (((((((0 + a) * 10 + b) * 10 + c) * 10 + d) * 10 + e) * 10 + f) * 10 + g) * 10 + h
eight-spell a b c d e f g h pa pb pc pd pe pf pg ph n p q n_is p_is q_is =
    let next : n / 256 ≡ (((((h * 256 + g) * 256 + f) * 256 + e) * 256 + d) * 256 + c) * 256 + b = omega (arith, n_is, pa) in
    let pairs : n * 10 + n / 256 ≡ ((((g * 10 + h) + 256 * (h * 10)) * 65536 + ((e * 10 + f) + 256 * (f * 10 + g))) * 65536
    + ((c * 10 + d) + 256 * (d * 10 + e))) * 65536 + ((a * 10 + b) + 256 * (b * 10 + c)) = omega (arith, n_is, next) in
    let p' : p ≡ (((g * 10 + h) * 65536 + (e * 10 + f)) * 65536 + (c * 10 + d)) * 65536 + (a * 10 + b) =
    p_is ∙ ap (λ j. bit_and j 71777214294589695) pairs
    ∙ lower-four (a * 10 + b) (b * 10 + c) (c * 10 + d) (d * 10 + e) (e * 10 + f) (f * 10 + g) (g * 10 + h) (h * 10)
    (omega (arith, pa, pb)) (omega (arith, pb, pc)) (omega (arith, pc, pd)) (omega (arith, pd, pe)) (omega (arith, pe, pf))
    (omega (arith, pf, pg)) (omega (arith, pg, ph)) in
    let next' : p / 65536 ≡ ((g * 10 + h) * 65536 + (e * 10 + f)) * 65536 + (c * 10 + d) = omega (arith, p', pa, pb) in
    let ab = (a * 10 + b) * 100 + (c * 10 + d) in
    let cd = (c * 10 + d) * 100 + (e * 10 + f) in
    let ef = (e * 10 + f) * 100 + (g * 10 + h) in
    let fours : p * 100 + p / 65536 ≡ (((g * 10 + h) * 100 * 65536 + ef) * 65536 + cd) * 65536 + ab = omega (arith, p', next') in
    let q' : q ≡ ef * 4294967296 + ab = q_is ∙ ap (λ j. bit_and j 281470681808895) fours
    ∙ lower-two ab cd ef ((g * 10 + h) * 100) (omega (arith, pa, pb, pc, pd)) (omega (arith, pc, pd, pe, pf))
    (omega (arith, pe, pf, pg, ph)) in
    let first : q % 4294967296 ≡ ab = omega (arith, q', pa, pb, pc, pd) in
    let last : q / 4294967296 ≡ ef = omega (arith, q', pa, pb, pc, pd) in
    omega (arith, first, last)
