-- Integers of widths that no element reaches.
use Rattle.std.proofs.Common.{◌≡◌, ℕ, suc, ◌+◌, ◌-◌, ◌<◌, ◌≤◌, ◌^◌, if◌then◌else◌, true, pos, negsuc, ap, arith}
use Rattle.std.proofs.lemmas.Bool.{lt-ltb}
use Rattle.std.proofs.Math.Nat.{pow-le-pow_right}
use Rattle.nt_trees.specs.Integers.{integer_of, half}

pub integer_of-wide : (bits n : ℕ) → 64 < bits → n < 2 ^ 64 → integer_of bits true n ≡ pos n
integer_of-wide bits n wide fits =
    let high : 2 ^ 64 ≤ half bits = pow-le-pow_right {n = 2} (omega arith) {i = 64} {j = bits - 1} (omega (arith, wide)) in
    ap (λ b. if b then pos n else negsuc ((half bits + half bits) - suc n)) (lt-ltb n (half bits) (omega (arith, fits, high)))

-- below half of the elements of a width a number stands for itself
pub integer_of-low : (bits n : ℕ) → n < half bits → integer_of bits true n ≡ pos n
integer_of-low bits n low = ap (λ b. if b then pos n else negsuc ((half bits + half bits) - suc n)) (lt-ltb n (half bits) low)

pub half-long : (bits : ℕ) → 20 < bits → 1000000 ≤ half bits
half-long bits long = omega (arith, pow-le-pow_right {n = 2} (omega arith) {i = 20} {j = bits - 1} (omega (arith, long)))

pub half-short : (bits : ℕ) → bits ≤ 20 → half bits ≤ 1000000
half-short bits short = omega (arith, pow-le-pow_right {n = 2} (omega arith) {i = bits - 1} {j = 19} (omega (arith, short)))
