-- The marks of a word: below the first of them are digits.
use Rattle.std.proofs.Common.{◌≡◌, ℕ, zero, suc, ◌+◌, ◌-◌, ◌*◌, ◌/◌, ◌%◌, ◌^◌, ◌<◌, ◌≤◌, List, length, take, drop, get_or}
use Rattle.std.proofs.Common.{refl, sym, ap, ◌∙◌, arith, subst}
use Rattle.std.proofs.Math.Nat.{mul_assoc, mul_comm}
use Rattle.std.proofs.lemmas.Nat.{and_block, and_mask, and_le_r, le_or_l, le_or_r, or_mod, or_shr, pow_pos, mod-mul-add, mod-pow-add}
use Rattle.std.proofs.lemmas.Nat.{div-add-mod', trailing_le}
use lib.Count.{count_trailing_zeros, under}
use Rattle.std.specs.Int.Bits.{bit_and, bit_or}
use Rattle.nt_digits.specs.Digits.{low_first, AreDigits}
use Rattle.nt_digits.proofs.WordDigits.{AllBytes, size, size-suc, low-part, take-bytes, drop-bytes, are-bytes, EightRead, eight-read}

-- 128 in each of so many bytes, below the rest of a number
abbrev pub highest : ℕ → ℕ → ℕ
highest zero rest = rest
highest (suc k) rest = 128 + 256 * highest k rest

-- 118 in each of so many bytes, below the rest of a number
abbrev pub above_nine : ℕ → ℕ → ℕ
above_nine zero rest = rest
above_nine (suc k) rest = 118 + 256 * above_nine k rest

highest-plus : (k m : ℕ) → highest (k + m) 0 ≡ highest k (highest m 0)
highest-plus zero m =
    let e : zero + m ≡ m = omega arith in
    ap (λ n. highest n 0) e
highest-plus (suc k) m =
    let e : suc k + m ≡ suc (k + m) = omega arith in
    ap (λ n. highest n 0) e ∙ ap (λ n. 128 + 256 * n) (highest-plus k m)

above_nine-plus : (k m : ℕ) → above_nine (k + m) 0 ≡ above_nine k (above_nine m 0)
above_nine-plus zero m =
    let e : zero + m ≡ m = omega arith in
    ap (λ n. above_nine n 0) e
above_nine-plus (suc k) m =
    let e : suc k + m ≡ suc (k + m) = omega arith in
    ap (λ n. above_nine n 0) e ∙ ap (λ n. 118 + 256 * n) (above_nine-plus k m)

-- so many of the lowest bytes have no highest bit
abbrev pub AreLow : ℕ → ℕ → Type 0
AreLow zero n = Unit {0}
AreLow (suc k) n = (n % 256 < 128) × AreLow k (n / 256)

-- a byte without its highest bit
low-byte : (r : ℕ) → r < 256 → bit_and r 128 ≡ 0 → r < 128
low-byte r below none =
    let cut : r ≡ r / 128 * 2 ^ 7 + r % 128 = omega arith in
    let e : bit_and r 128 ≡ bit_and (r / 128) 1 * 2 ^ 7 + bit_and (r % 128) 0 =
    ap (λ n. bit_and n 128) cut ∙ and_block 7 (r / 128) 1 (r % 128) 0 (omega arith) (omega arith) in
    omega (arith, e, none, and_mask (r / 128) 1, below)

-- of a byte and a number above it
none-left : (a b s : ℕ) → 0 < s → b < 256 → (a * 256 + b) % (256 * s) ≡ 0 → (b ≡ 0) × (a % s ≡ 0)
none-left a b s some byte none =
    let q = (a * 256 + b) / (256 * s) in
    let turned : q * (256 * s) ≡ 256 * (s * q) = mul_comm q (256 * s) ∙ mul_assoc 256 s q in
    let parts : q * (256 * s) + (a * 256 + b) % (256 * s) ≡ a * 256 + b = div-add-mod' (a * 256 + b) (256 * s) in
    let whole : a ≡ q * s + 0 = omega (arith, turned, parts, none, byte, mul_comm q s) in
    (omega (arith, turned, parts, none, byte), ap (λ n. n % s) whole ∙ mod-mul-add q s 0 some)

low-both : (k t n v : ℕ) → bit_and (bit_or n v) (highest k t) % size k ≡ 0 → AreLow k n × AreLow k v
low-both zero t n v none = (tt, tt)
low-both (suc k) t n v none =
    let x = bit_or n v in
    let rest = bit_and (x / 256) (highest k t) in
    let b = bit_and (x % 256) 128 in
    let cut : x ≡ x / 256 * 2 ^ 8 + x % 256 = omega arith in
    let mask : highest (suc k) t ≡ highest k t * 2 ^ 8 + 128 = omega arith in
    let e : bit_and x (highest (suc k) t) ≡ rest * 256 + b =
    ap (λ j. bit_and j (highest (suc k) t)) cut ∙ ap (λ j. bit_and (x / 256 * 2 ^ 8 + x % 256) j) mask
    ∙ and_block 8 (x / 256) (highest k t) (x % 256) 128 (omega arith) (omega arith) in
    let left = none-left rest b (size k) (pow_pos (8 * k)) (omega (arith, and_le_r (x % 256) 128))
    (ap (λ j. (rest * 256 + b) % j) (sym (size-suc k)) ∙ ap (λ j. j % size (suc k)) (sym e) ∙ none) in
    let low : x % 256 < 128 = low-byte (x % 256) (omega arith) left.0 in
    let next = low-both k t (n / 256) (v / 256) (ap (λ j. bit_and j (highest k t) % size k) (sym (or_shr n v 8)) ∙ left.1) in (
      (omega (arith, low, or_mod n v 8, le_or_l (n % 256) (v % 256)), next.0),
      (omega (arith, low, or_mod n v 8, le_or_r (n % 256) (v % 256)), next.1),
    )

low-mod : (k m y : ℕ) → AreLow k (y % size (k + m)) → AreLow k y
low-mod zero m y low = tt
low-mod (suc k) m y low =
    let up : suc k + m ≡ suc (k + m) = omega arith in
    let low' = subst (λ n. AreLow (suc k) (y % size n)) up low in
    let p = low-part (k + m) y in
    (subst (λ n. n < 128) p.0 low'.0, low-mod k m (y / 256) (subst (AreLow k) p.1 low'.1))

low-digits : (k t n : ℕ) → AreLow k n → AreLow k (n + above_nine k t) → AreDigits k n
low-digits zero t n low high = tt
low-digits (suc k) t n low high =
    let next : (n + above_nine (suc k) t) / 256 ≡ n / 256 + above_nine k t = omega (arith, low.0) in
    (omega (arith, low.0, high.0), low-digits k t (n / 256) low.1 (subst (AreLow k) next high.1))

-- as many of the lowest bytes as have no mark are digits
pub unmarked : (k n : ℕ) → k ≤ 8
    → bit_and (bit_or n ((n + above_nine 8 0) % 2 ^ 64)) (highest 8 0) % size k ≡ 0 → AreDigits k n
unmarked k n most none =
    let m = 8 - k in
    let all : k + m ≡ 8 = omega (arith, most) in
    let v = (n + above_nine 8 0) % 2 ^ 64 in
    let mask : highest 8 0 ≡ highest k (highest m 0) = ap (λ j. highest j 0) (sym all) ∙ highest-plus k m in
    let nines : above_nine 8 0 ≡ above_nine k (above_nine m 0) = ap (λ j. above_nine j 0) (sym all) ∙ above_nine-plus k m in
    let low = low-both k (highest m 0) n v (ap (λ h. bit_and (bit_or n v) h % size k) (sym mask) ∙ none) in
    let whole : 2 ^ 64 ≡ size (k + m) = ap size (sym all) in
    let high = low-mod k m (n + above_nine 8 0) (subst (λ s. AreLow k ((n + above_nine 8 0) % s)) whole low.1) in
    low-digits k (above_nine m 0) n low.0 (subst (λ a. AreLow k (n + a)) nines high)

no-bits : (n k d t : ℕ) → n % 2 ≡ d → k ≤ under d t → ((j : ℕ) → j ≤ t → n / 2 % 2 ^ j ≡ 0) → n % 2 ^ k ≡ 0
no-bits n zero d t even few half = omega arith
no-bits n (suc k) (suc d) t even few half = absurd (omega (arith, few))
no-bits n (suc k) zero t even few half =
    let up : suc k ≡ k + 1 = omega arith in
    let left : n / 2 % 2 ^ k ≡ 0 = half k (omega (arith, few)) in
    ap (λ j. n % 2 ^ j) up ∙ mod-pow-add n k 1 ∙ omega (arith, left, even)

-- no bit is set below as many as are zeros
pub trailing-none : (w n k : ℕ) → k ≤ count_trailing_zeros w n → n % 2 ^ k ≡ 0
unfolding count_trailing_zeros
trailing-none zero n k few =
    let e : k ≡ 0 = omega (arith, few) in
    ap (λ j. n % 2 ^ j) e ∙ omega arith
trailing-none (suc w) n k few = no-bits n k (n % 2) (count_trailing_zeros w (n / 2)) refl few (λ j le. trailing-none w (n / 2) j le)

-- what is read of a word, by the first mark
pub read-to-mark : (text : List ℕ) (at bytes marks : ℕ) → at + 8 ≤ length text → ((i : ℕ) → get_or text i 0 < 256)
    → bytes ≡ low_first (take 8 (drop at text))
    → ((k : ℕ) → k ≤ 8 → marks % 2 ^ (8 * k) ≡ 0 → AreDigits k ((bytes + (2 ^ 64 - 3472328296227680304)) % 2 ^ 64))
    → EightRead text at (count_trailing_zeros 64 marks / 8)
    (((bytes + (2 ^ 64 - 3472328296227680304)) % 2 ^ 64 * 2 ^ (64 - 8 * (count_trailing_zeros 64 marks / 8))) % 2 ^ 64)
read-to-mark text at bytes marks within below is digits =
    let k = count_trailing_zeros 64 marks / 8 in
    let w = (bytes + (2 ^ 64 - 3472328296227680304)) % 2 ^ 64 in
    let most : k ≤ 8 = omega (arith, trailing_le 64 marks) in
    let all : k + (8 - k) ≡ 8 = omega (arith, most) in
    let rest : 8 * (8 - k) ≡ 64 - 8 * k = omega (arith, most) in
    let own : AllBytes (take 8 (drop at text)) = take-bytes 8 (drop at text) (drop-bytes at text (are-bytes text below)) in
    let none = trailing-none 64 marks (8 * k) (omega arith) in
    subst (λ n. EightRead text at k ((w * 2 ^ n) % 2 ^ 64)) rest (eight-read text at k (8 - k) w within all own
    (ap (λ n. (n + (2 ^ 64 - 3472328296227680304)) % 2 ^ 64) (sym is)) (digits k most none))
