-- The widths at which elements are kept.
use Rattle.std.specs.Prelude.{ℕ}

-- the bits of a pair: an index of 64 and a tag of 32
abbrev pub pair_width : ℕ
pair_width = 96
