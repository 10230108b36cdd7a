-- What keys of at most 32 bits come to, key by key.
use Rattle.std.proofs.Common.{◌≡◌, ℕ, ◌+◌, ◌*◌, ◌<◌, ◌≤◌, min, max, List, [], ◌∷◌, ◌++◌, arith}
use Rattle.std.specs.Prelude.{sum}
use Rattle.nt_total.specs.Keys.{least_key, greatest_key, IsPieceOf}
use Rattle.nt_total.proofs.Pieces.{least_key-append, greatest_key-append, sum-append, sum-one}

-- so many keys came to these: their sum, the least and the greatest of 32 bits
pub record IsNarrowSoFar (ks : List ℕ) (n total low high : ℕ) : Type 0 where
  pub sum : total ≡ sum ks
  pub few : total ≤ n * 4294967296
  pub least : low ≡ min 4294967295 (least_key ks)
  pub greatest : high ≡ greatest_key ks
  pub some : 0 < n → least_key ks ≤ 4294967295

pub narrow-none : IsNarrowSoFar [] 0 0 4294967295 0
narrow-none = record {
  sum = omega arith;
  few = omega arith;
  least = omega arith;
  greatest = omega arith;
  some = λ lt. omega (arith, lt);
}

-- one key more
pub narrow-more : (ks : List ℕ) (n k total low high total' low' high' : ℕ) → IsNarrowSoFar ks n total low high → k < 4294967296
    → total' ≡ total + k → low' ≡ min low k → high' ≡ max high k → IsNarrowSoFar (ks ++ k ∷ []) (n + 1) total' low' high'
narrow-more ks n k total low high total' low' high' h lt s l g =
    let least = least_key-append ks (k ∷ []) in record {
      sum = omega (arith, s, h.sum, sum-append ks (k ∷ []), sum-one k);
      few = omega (arith, s, h.few, lt);
      least = omega (arith, l, h.least, least, lt);
      greatest = omega (arith, g, h.greatest, greatest_key-append ks (k ∷ []));
      some = λ more. omega (arith, least, lt);
    }

-- all of them, where they are some and few
pub narrow-piece : (ks : List ℕ) (n total low high : ℕ) → IsNarrowSoFar ks n total low high → 0 < n → n ≤ 2147483648
    → IsPieceOf ks (record { sum = total; least = low; greatest = high })
narrow-piece ks n total low high h some few = record {
  sum = omega (arith, h.sum, h.few, few);
  least = omega (arith, h.least, h.some some);
  greatest = h.greatest;
}
