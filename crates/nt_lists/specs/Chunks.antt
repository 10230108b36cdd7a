-- A list in groups of n: consecutive, the last one shorter and never empty.
use Rattle.std.specs.Prelude.{ℕ, ◌+◌, ◌*◌, List, map, length}
use Rattle.std.specs.Int.{div_ceil}
use Rattle.std.specs.List.{slice_range, range_with_len}

-- group i
abbrev pub chunk : {A : Type 0} → ℕ → List A → ℕ → List A
chunk n xs i = slice_range xs (i * n) (i * n + n)

-- all groups, in order
abbrev pub chunks : {A : Type 0} → ℕ → List A → List (List A)
chunks n xs = map (chunk n xs) (range_with_len 0 (div_ceil (length xs) n))
