-- XXH3-64 with seed 0, by the length of the input, as the XXH3 description of xxHash defines it.
use Rattle.std.specs.Prelude.{ℕ, List, length, nat_le, if◌then◌else◌}
use Rattle.nt_xxh3.specs.Short.{of_none, of_1_to_3, of_4_to_8, of_9_to_16}
use Rattle.nt_xxh3.specs.Middle.{of_17_to_128, of_129_to_240}
use Rattle.nt_xxh3.specs.Long.{above_240}

-- the checksum of a list of bytes
unfoldable pub xxh3 : List ℕ → ℕ
xxh3 bytes =
    if nat_le (length bytes) 0 then of_none
    else (if nat_le (length bytes) 3 then of_1_to_3 bytes
    else (if nat_le (length bytes) 8 then of_4_to_8 bytes
    else (if nat_le (length bytes) 16 then of_9_to_16 bytes
    else (if nat_le (length bytes) 128 then of_17_to_128 bytes
    else (if nat_le (length bytes) 240 then of_129_to_240 bytes
    else above_240 bytes)))))
