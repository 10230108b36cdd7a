-- What a cursor reads: numbers of a fixed width, as RNTuple and TFile store them (RNTuple Binary Format Specification 1.0.0.0,
-- section Basic Types).
use Rattle.std.specs.Prelude.{ℕ, ◌≡◌, ◌<◌, ◌≤◌, ℤ, List, length, take, nat_lt, if◌then◌else◌, Result, Ok, Err}
use Rattle.std.specs.Int.{Width, byte_len, from_le_bytes, from_be_bytes, cast_signed}
use Rattle.nt_num.specs.Place.{At, past}
use Rattle.nt_num.specs.declared.cursor.Short.{Short}

-- what the next n bytes mean and the place behind them, or this place where fewer are left
abbrev pub next : {V : Type 0} → (List ℕ → V) → ℕ → At → Result (V × At) ℕ
next meaning n here =
    if nat_lt (length here.left) n then Err here.place else Ok (meaning (take n here.left), past n here)

-- an unsigned number, the lowest byte first
abbrev pub little : Width → At → Result (ℕ × At) ℕ
little w = next (from_le_bytes w) (byte_len w)

-- a number in two's complement, the lowest byte first
abbrev pub little_signed : Width → At → Result (ℤ × At) ℕ
little_signed w = next (λ bytes. cast_signed w (from_le_bytes w bytes)) (byte_len w)

-- an unsigned number, the highest byte first
abbrev pub big : Width → At → Result (ℕ × At) ℕ
big w = next (from_be_bytes w) (byte_len w)

-- the next n bytes alone, whose places count from the same beginning
abbrev pub part_of : ℕ → At → Result (At × At) ℕ
part_of n here = next (λ bytes. record { place = here.place; left = bytes }) n here

-- a read of n bytes moves the cursor past them; it is short exactly where fewer are left, and the cursor then stays
abbrev pub Moves : {V : Type 0} → ℕ → Result V Short → At → At → Type 0
Moves n (Ok v) old new = (n ≤ length old.left) × (new ≡ past n old)
Moves n (Err e) old new = (length old.left < n) × (new ≡ old)
