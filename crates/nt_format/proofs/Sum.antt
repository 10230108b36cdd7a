-- The checksum is a number of 64 bits.
use Rattle.std.proofs.Common.{ℕ, ◌/◌, ◌%◌, ◌^◌, ◌<◌, Bool, true, false, cond, List, arith}
use Rattle.std.proofs.lemmas.Nat.{xor_lt, shr_le}
use Rattle.nt_xxh3.specs.Steps.{xor_shift, avalanche_64, avalanche}
use Rattle.nt_xxh3.specs.Short.{of_none, of_1_to_3, of_4_to_8, of_9_to_16}
use Rattle.nt_xxh3.specs.Middle.{of_17_to_128, of_129_to_240}
use Rattle.nt_xxh3.specs.Long.{above_240, merged}
use Rattle.nt_xxh3.specs.Sum.{xxh3}

shifted_below : (hash by : ℕ) → xor_shift (hash % 2 ^ 64) by < 2 ^ 64
shifted_below hash by =
    let small : hash % 2 ^ 64 < 2 ^ 64 = omega arith in
    xor_lt 64 (hash % 2 ^ 64) (hash % 2 ^ 64 / 2 ^ by) small (omega (arith, shr_le (hash % 2 ^ 64) by))

avalanche_64_below : (hash : ℕ) → avalanche_64 hash < 2 ^ 64
unfolding avalanche_64
avalanche_64_below hash = shifted_below _ 32

avalanche_below : (hash : ℕ) → avalanche hash < 2 ^ 64
unfolding avalanche
avalanche_below hash = shifted_below _ 32

none_below : of_none < 2 ^ 64
unfolding of_none
none_below = avalanche_64_below _

three_below : (bytes : List ℕ) → of_1_to_3 bytes < 2 ^ 64
unfolding of_1_to_3
three_below bytes = avalanche_64_below _

eight_below : (bytes : List ℕ) → of_4_to_8 bytes < 2 ^ 64
unfolding of_4_to_8
eight_below bytes = shifted_below _ 28

sixteen_below : (bytes : List ℕ) → of_9_to_16 bytes < 2 ^ 64
unfolding of_9_to_16
sixteen_below bytes = avalanche_below _

middle_below : (bytes : List ℕ) → of_17_to_128 bytes < 2 ^ 64
unfolding of_17_to_128
middle_below bytes = avalanche_below _

large_below : (bytes : List ℕ) → of_129_to_240 bytes < 2 ^ 64
unfolding of_129_to_240
large_below bytes = avalanche_below _

long_below : (bytes : List ℕ) → above_240 bytes < 2 ^ 64
unfolding above_240 merged
long_below bytes = avalanche_below _

either_below : (b : Bool) (x y : ℕ) → x < 2 ^ 64 → y < 2 ^ 64 → cond b x y < 2 ^ 64
either_below true x y p q = p
either_below false x y p q = q

pub xxh3_below : (bytes : List ℕ) → xxh3 bytes < 2 ^ 64
unfolding xxh3
xxh3_below bytes =
    either_below _ _ _ none_below
    (either_below _ _ _ (three_below bytes)
    (either_below _ _ _ (eight_below bytes)
    (either_below _ _ _ (sixteen_below bytes)
    (either_below _ _ _ (middle_below bytes)
    (either_below _ _ _ (large_below bytes) (long_below bytes))))))
