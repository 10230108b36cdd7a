-- Elements as keys, which are in the order of their integers, and what keys come to.
use Rattle.std.specs.Prelude.{ℤ, pos, ◌-ℤ◌, ℕ, ◌≡◌, ◌+◌, ◌-◌, ◌%◌, ◌^◌, List, [], ◌∷◌, ◌<◌, length, All, min, max, sum, nat_lt}
use Rattle.std.specs.Prelude.{if◌then◌else◌}
use Rattle.nt_total.specs.declared.piece.Piece.{Piece}

-- the place of an element among the integers of its width, of which as many as the bias are below zero
abbrev pub key : ℕ → ℕ → ℕ
key bias n = if nat_lt n bias then n + bias else n - bias

-- the least of keys, and the largest number of none
abbrev pub least_key : List ℕ → ℕ
least_key [] = 18446744073709551615
least_key (k ∷ ks) = min k (least_key ks)

-- the greatest of keys, and 0 of none
abbrev pub greatest_key : List ℕ → ℕ
greatest_key [] = 0
greatest_key (k ∷ ks) = max k (greatest_key ks)

-- what keys come to
pub record IsPieceOf (ks : List ℕ) (p : Piece) : Type 0 where
  pub sum : p.sum ≡ sum ks % 2 ^ 128
  pub least : p.least ≡ least_key ks
  pub greatest : p.greatest ≡ greatest_key ks

-- what two parts come to
pub record IsJoinOf (a b p : Piece) : Type 0 where
  pub sum : p.sum ≡ (a.sum + b.sum) % 2 ^ 128
  pub least : p.least ≡ min a.least b.least
  pub greatest : p.greatest ≡ max a.greatest b.greatest

-- the integer of a key
abbrev pub integer_of_key : ℕ → ℕ → ℤ
integer_of_key bias k = pos k -ℤ pos bias

-- a piece is what so many keys come to, whose sum is kept whole
pub record AreKeysOf (n : ℕ) (p : Piece) (ks : List ℕ) : Type 0 where
  pub count : length ks ≡ n
  pub whole : sum ks < 2 ^ 124
  pub words : All (λ k. k < 2 ^ 64) ks
  pub piece : IsPieceOf ks p
