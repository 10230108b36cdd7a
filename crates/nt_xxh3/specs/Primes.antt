-- The primes of the XXH3 description.
use Rattle.std.specs.Prelude.{ℕ}

-- a prime of 32 bits, the first
abbrev pub P32_1 : ℕ
P32_1 = 0x9e3779b1

-- the second
abbrev pub P32_2 : ℕ
P32_2 = 0x85ebca77

-- the third
abbrev pub P32_3 : ℕ
P32_3 = 0xc2b2ae3d

-- a prime of 64 bits, the first
abbrev pub P64_1 : ℕ
P64_1 = 0x9e3779b185ebca87

-- the second
abbrev pub P64_2 : ℕ
P64_2 = 0xc2b2ae3d27d4eb4f

-- the third
abbrev pub P64_3 : ℕ
P64_3 = 0x165667b19e3779f9

-- the fourth
abbrev pub P64_4 : ℕ
P64_4 = 0x85ebca77c2b2ae63

-- the fifth
abbrev pub P64_5 : ℕ
P64_5 = 0x27d4eb2f165667c5

-- the multiplier of an avalanche
abbrev pub MX1 : ℕ
MX1 = 0x165667919e3779f9

-- the multiplier of the mix of 4 to 8 bytes
abbrev pub MX2 : ℕ
MX2 = 0x9fb21c651e98df25
