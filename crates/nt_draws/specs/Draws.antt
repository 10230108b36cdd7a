-- The numbers that are drawn: each draw makes the next one of the last.
use Rattle.std.specs.Prelude.{ℕ, zero, suc, ◌*◌, ◌%◌}

-- what a draw makes of a number
unfoldable pub drawn : ℕ → ℕ
drawn s = s * 48271 % 2147483647

-- what so many draws make of a number
abbrev pub after_draws : ℕ → ℕ → ℕ
after_draws zero s = s
after_draws (suc n) s = after_draws n (drawn s)
