-- What keys of at most 64 bits come to, key by key, where their lower and higher halves are summed apart.
use Rattle.std.proofs.Common.{◌≡◌, ℕ, ◌+◌, ◌*◌, ◌/◌, ◌%◌, ◌<◌, ◌≤◌, min, max, List, [], ◌∷◌, ◌++◌, arith}
use Rattle.std.specs.Prelude.{sum}
use Rattle.nt_total.specs.Keys.{least_key, greatest_key}
use Rattle.nt_total.proofs.Pieces.{least_key-append, greatest_key-append, sum-append, sum-one}

-- so many keys came to these: the sums of their halves, the least and the greatest
pub record IsWideSoFar (ks : List ℕ) (n low high first last : ℕ) : Type 0 where
  pub sum : low + high * 4294967296 ≡ sum ks
  pub low_few : low ≤ n * 4294967296
  pub high_few : high ≤ n * 4294967296
  pub least : first ≡ least_key ks
  pub greatest : last ≡ greatest_key ks

pub wide-none : IsWideSoFar [] 0 0 0 18446744073709551615 0
wide-none = record {
  sum = omega arith;
  low_few = omega arith;
  high_few = omega arith;
  least = omega arith;
  greatest = omega arith;
}

-- one key more
pub wide-more : (ks : List ℕ) (n k low high first last low' high' first' last' : ℕ) → IsWideSoFar ks n low high first last
    → k < 18446744073709551616 → low' ≡ low + k % 4294967296 → high' ≡ high + k / 4294967296 → first' ≡ min first k
    → last' ≡ max last k → IsWideSoFar (ks ++ k ∷ []) (n + 1) low' high' first' last'
wide-more ks n k low high first last low' high' first' last' h lt l u s g = record {
  sum = omega (arith, l, u, h.sum, sum-append ks (k ∷ []), sum-one k);
  low_few = omega (arith, l, h.low_few);
  high_few = omega (arith, u, h.high_few, lt);
  least = omega (arith, s, h.least, least_key-append ks (k ∷ []), lt);
  greatest = omega (arith, g, h.greatest, greatest_key-append ks (k ∷ []));
}
