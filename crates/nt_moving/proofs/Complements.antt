-- Elements of integers in one width and in another.
use Rattle.std.proofs.Common.{◌≡◌, ℕ, zero, suc, ◌+◌, ◌-◌, ◌<◌, ◌≤◌, ◌^◌, Bool, true, false, cond, pos, negsuc, refl, sym, ◌∙◌, ap, arith}
use Rattle.std.specs.Prelude.{nat_lt}
use Rattle.std.proofs.Math.Nat.{pow-le-pow_right}
use Rattle.nt_types.specs.Fits.{is_int}
use Rattle.nt_types.specs.Spelling.{is_width}
use Rattle.nt_trees.specs.Integers.{half, integer_of, twos_complement}

two_halves : (bits : ℕ) → 0 < bits → half bits + half bits ≡ 2 ^ bits
two_halves zero some = absurd (omega (arith, some))
two_halves (suc b) some =
    let less : suc b - 1 ≡ b = omega arith in
    let is : half (suc b) ≡ 2 ^ b = ap (λ (n : ℕ). 2 ^ n) less in
    omega (arith, is)

-- the element of an integer is the one that it was read from
pub complement-integer_of : (bits : ℕ) (signed : Bool) (n : ℕ) → (signed ≡ true → (0 < bits) × (n < 2 ^ bits))
    → twos_complement bits (integer_of bits signed n) ≡ n
complement-integer_of bits false n h = refl
complement-integer_of bits true n h = by (nat_lt n (half bits))
  where
    by : (t : Bool) → twos_complement bits (cond t (pos n) (negsuc ((half bits + half bits) - suc n))) ≡ n
    by true = refl
    by false = omega (arith, two_halves bits (h refl).0, (h refl).1)

-- a width has a bit
pub width-some : (bits : ℕ) → is_width bits ≡ true → 0 < bits
width-some zero is = absurd (cc)
width-some (suc b) is = omega arith

under : (a b : ℕ) → nat_lt a b ≡ true → a < b
under a b h = grind (arith, h)

-- an integer that isn't below zero is its own element
natural-fits : (bits : ℕ) (signed : Bool) (n : ℕ) → is_int bits signed (pos n) ≡ true → n < 2 ^ bits
natural-fits bits false n h = under n (2 ^ bits) h
natural-fits bits true n h =
    let low = under n (2 ^ (bits - 1)) h in
    let most : 2 ^ (bits - 1) ≤ 2 ^ bits = pow-le-pow_right {n = 2} (omega arith) {i = bits - 1} {j = bits} (omega arith) in
    omega (arith, low, most)

module _ (from bits : ℕ) (signed : Bool) (n : ℕ) (some : 0 < bits) (itself : signed ≡ true → (from ≡ bits) × (n < 2 ^ bits)) where
  -- an element that is the same in another width
  pub itself-element : n ≡ twos_complement bits (integer_of from signed n)
  itself-element = by signed itself
    where
      by : (s : Bool) → (s ≡ true → (from ≡ bits) × (n < 2 ^ bits)) → n ≡ twos_complement bits (integer_of from s n)
      by false h = refl
      by true h =
          sym (complement-integer_of bits true n (λ _. (some, (h refl).1)))
          ∙ ap (λ (w : ℕ). twos_complement bits (integer_of w true n)) (sym (h refl).0)

  pub itself-fits : (sign : Bool) → is_int bits sign (integer_of from signed n) ≡ true → n < 2 ^ bits
  itself-fits sign fits = by signed itself fits
    where
      by : (s : Bool) → (s ≡ true → (from ≡ bits) × (n < 2 ^ bits)) → is_int bits sign (integer_of from s n) ≡ true → n < 2 ^ bits
      by false h fit = natural-fits bits sign n fit
      by true h fit = (h refl).1
