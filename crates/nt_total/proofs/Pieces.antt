-- What keys come to, part by part.
use Rattle.std.proofs.Common.{◌≡◌, ℕ, ◌+◌, ◌%◌, ◌^◌, ◌<◌, ◌≤◌, min, max, List, [], ◌∷◌, ◌++◌, arith}
use Rattle.std.specs.Prelude.{sum}
use Rattle.std.proofs.lemmas.List.Sums.{sum_by-append}
use Rattle.nt_total.specs.declared.piece.Piece.{Piece}
use Rattle.nt_total.specs.Keys.{least_key, greatest_key, IsPieceOf, IsJoinOf}

pub least_key-le : (ks : List ℕ) → least_key ks ≤ 18446744073709551615
least_key-le [] = omega arith
least_key-le (k ∷ ks) = omega (arith, least_key-le ks)

pub least_key-append : (xs ys : List ℕ) → least_key (xs ++ ys) ≡ min (least_key xs) (least_key ys)
least_key-append [] ys = omega (arith, least_key-le ys)
least_key-append (x ∷ xs) ys = omega (arith, least_key-append xs ys)

pub greatest_key-append : (xs ys : List ℕ) → greatest_key (xs ++ ys) ≡ max (greatest_key xs) (greatest_key ys)
greatest_key-append [] ys = omega arith
greatest_key-append (x ∷ xs) ys = omega (arith, greatest_key-append xs ys)

pub sum-append : (xs ys : List ℕ) → sum (xs ++ ys) ≡ sum xs + sum ys
sum-append xs ys = sum_by-append (λ x. x) xs ys

pub sum-one : (x : ℕ) → sum (x ∷ []) ≡ x
sum-one x = omega arith

-- two parts
pub piece-join : (xs ys : List ℕ) (a b p : Piece) → IsPieceOf xs a → IsPieceOf ys b → IsJoinOf a b p → IsPieceOf (xs ++ ys) p
piece-join xs ys a b p f g j = record {
  sum = omega (arith, f.sum, g.sum, j.sum, sum-append xs ys);
  least = omega (arith, f.least, g.least, j.least, least_key-append xs ys);
  greatest = omega (arith, f.greatest, g.greatest, j.greatest, greatest_key-append xs ys);
}

-- one key
pub piece-one : (k : ℕ) → k < 2 ^ 64 → IsPieceOf (k ∷ []) (record { sum = k; least = k; greatest = k })
piece-one k lt = record {
  sum = omega (arith, sum-one k);
  least = omega arith;
  greatest = omega arith;
}

-- one more key
pub piece-more : (ks : List ℕ) (k : ℕ) (a p : Piece) → k < 2 ^ 64 → IsPieceOf ks a → p.sum ≡ (a.sum + k) % 2 ^ 128
    → p.least ≡ min a.least k → p.greatest ≡ max a.greatest k → IsPieceOf (ks ++ k ∷ []) p
piece-more ks k a p lt f s l g =
    piece-join ks (k ∷ []) a (record { sum = k; least = k; greatest = k }) p f (piece-one k lt)
    (record { sum = s; least = l; greatest = g })
