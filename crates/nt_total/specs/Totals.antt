-- What integers come to: how many there are, their sum, the least and the greatest.
use Rattle.std.specs.Prelude.{ℕ, ◌≡◌, ◌+◌, ◌^◌, ◌≤ℤ◌, ◌<◌, List, [], length, fold, ℤ, pos, ◌+ℤ◌, Bool, true, false, Option, MatchOption}
use Rattle.std.specs.List.{All, Contains}
use Rattle.nt_types.specs.declared.column_type.ColumnType.{ColumnType}
use Rattle.nt_types.specs.declared.column_type.ColumnType.TheVariants.{Byte, Char, Int8, UInt8, Int16, UInt16, Int32, UInt32, Int64, UInt64}
use Rattle.nt_types.specs.declared.column_type.ColumnType.TheVariants.{SplitInt16, SplitUInt16, SplitInt32, SplitUInt32, SplitInt64}
use Rattle.nt_types.specs.declared.column_type.ColumnType.TheVariants.{SplitUInt64}
use Rattle.nt_types.specs.ColumnTable.{bits_of}
use Rattle.nt_trees.specs.Integers.{half, integer_of}
use Rattle.nt_total.specs.declared.total.Total.{Total}

-- whether the values of a column's type are integers, characters or bytes: no truth values, ends or choices
abbrev pub is_integral : ColumnType → Bool
is_integral Byte = true
is_integral Char = true
is_integral Int8 = true
is_integral UInt8 = true
is_integral Int16 = true
is_integral UInt16 = true
is_integral Int32 = true
is_integral UInt32 = true
is_integral Int64 = true
is_integral UInt64 = true
is_integral SplitInt16 = true
is_integral SplitUInt16 = true
is_integral SplitInt32 = true
is_integral SplitUInt32 = true
is_integral SplitInt64 = true
is_integral SplitUInt64 = true
is_integral _ = false

-- whether they have a sign
abbrev pub is_signed : ColumnType → Bool
is_signed Int8 = true
is_signed Int16 = true
is_signed Int32 = true
is_signed Int64 = true
is_signed SplitInt16 = true
is_signed SplitInt32 = true
is_signed SplitInt64 = true
is_signed _ = false

-- the integer that an element of a type stands for
abbrev pub integer_in : ColumnType → ℕ → ℤ
integer_in kind n = integer_of (bits_of kind) (is_signed kind) n

-- the sum of integers
abbrev pub sum_of : List ℤ → ℤ
sum_of xs = fold ◌+ℤ◌ (pos 0) xs

-- one of the integers, and none is below it; there is none where there are no integers
abbrev pub IsLeastOf : List ℤ → Option ℤ → Type 0
IsLeastOf xs least = MatchOption least (xs ≡ []) (λ m. Contains xs m × All (λ x. m ≤ℤ x) xs)

-- one of the integers, and none is above it; there is none where there are no integers
abbrev pub IsGreatestOf : List ℤ → Option ℤ → Type 0
IsGreatestOf xs greatest = MatchOption greatest (xs ≡ []) (λ m. Contains xs m × All (λ x. x ≤ℤ m) xs)

-- what integers come to
pub record IsTotalOf (xs : List ℤ) (t : Total) : Type 0 where
  pub count : t.count ≡ length xs
  pub sum : t.sum ≡ sum_of xs
  pub least : IsLeastOf xs t.least
  pub greatest : IsGreatestOf xs t.greatest

-- how many of the elements of a width stand for integers below zero
abbrev pub below_zero : ℕ → Bool → ℕ
below_zero bits false = 0
below_zero bits true = half bits

-- the same of a column's type
abbrev pub low_of : ColumnType → ℕ
low_of kind = below_zero (bits_of kind) (is_signed kind)

-- an element of the width, in 64 bits
pub record IsOfWidth (bits n : ℕ) : Type 0 where
  pub width : n < half bits + half bits
  pub word : n < 2 ^ 64
