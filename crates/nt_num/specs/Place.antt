-- Where a reader stands in a list of bytes.
use Rattle.std.specs.Prelude.{ℕ, ◌+◌, List, drop}

-- a place, counted from some beginning, and the bytes that are left from it on
pub record At : Type 0 where
  pub place : ℕ
  pub left : List ℕ

-- the place n bytes further on
abbrev pub past : ℕ → At → At
past n here = record { place = here.place + n; left = drop n here.left }
