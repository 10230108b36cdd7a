-- How large lines and their numbers are.
use Rattle.std.specs.Prelude.{ℕ, ◌^◌}

-- the most bytes of a line, its LF aside
abbrev pub max_line : ℕ
max_line = 2 ^ 24

-- the largest number of a line
abbrev pub max_number : ℕ
max_number = 2 ^ 48
