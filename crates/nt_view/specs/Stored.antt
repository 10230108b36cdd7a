-- A page as it is stored: its bytes, and behind them, where it has one, their checksum of 8 bytes.
-- RNTuple Binary Format Specification 1.0.0.0, sections Page Locations and Envelopes.
use Rattle.std.specs.Prelude.{ℕ, ◌+◌, Bool, ◌||◌, not, nat_eq, List, take, drop, if◌then◌else◌}
use Rattle.std.specs.Int.{w64, from_le_bytes}
use Rattle.nt_xxh3.specs.Sum.{xxh3}

-- the bytes of a page of this size, with its checksum where it has one
abbrev pub len_with_sum : Bool → ℕ → ℕ
len_with_sum checked size = if checked then size + 8 else size

-- the checksum that is kept behind a page of this size
abbrev pub sum_behind : ℕ → List ℕ → ℕ
sum_behind size stored = from_le_bytes w64 (drop size stored)

-- a page has the checksum that is kept behind it, where one is
abbrev pub has_its_sum : Bool → ℕ → List ℕ → Bool
has_its_sum checked size stored = not checked || nat_eq (sum_behind size stored) (xxh3 (take size stored))
