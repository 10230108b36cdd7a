-- Words of one byte alone: all digits above the lowest are 0.
use Rattle.std.proofs.Common.{◌≡◌, ℕ, zero, suc, ◌+◌, ◌*◌, ◌/◌, ◌%◌, ◌^◌, ◌<◌, ◌≤◌, List, length, get_or, refl, sym, ◌∙◌, ap, arith}
use Rattle.std.proofs.Math.Nat.{div-eq_of_lt, mul-zero, mul-one, pow-zero, zero-add, zero-mul}
use Rattle.nt_encode.specs.Digits.{digit_of, number_of}
use Rattle.nt_encode.specs.Split.{split_value, split_values, GoOnLow}
use Rattle.nt_encode.proofs.Lists.{length-list_of, get_or-list_of}
use Rattle.nt_encode.proofs.Digits.{number_of-lt}
use Rattle.std.proofs.lemmas.Grind.{get_or_default_zero}
use Rattle.nt_encode.proofs.Powers.{word-le}

-- a digit above the only byte of a number
pub digit_of-low : (w j : ℕ) → w < 256 → 0 < j → digit_of 8 w j ≡ 0
digit_of-low w j low some =
    let power : 2 ^ 8 ≤ 2 ^ (8 * j) = word-le 8 (8 * j) (omega arith) in
    let none : w / 2 ^ (8 * j) ≡ 0 = div-eq_of_lt (omega arith) in
    ap (λ (x : ℕ). x % 2 ^ 8) none

-- one digit more than there are
number_of-first : (d k : ℕ) (f : ℕ → ℕ) → ((j : ℕ) → 0 < j → j < suc k → f j ≡ 0) → number_of d (suc k) f ≡ f 0
unfolding number_of
number_of-first d zero f none = simp (mul-zero, pow-zero, mul-one, zero-add) refl
number_of-first d (suc k) f none =
    let before : number_of d (suc k) f ≡ f 0 = number_of-first d k f (λ j some h. none j some (omega arith)) in
    let last : f (suc k) ≡ 0 = none (suc k) (omega arith) (omega arith) in
    rw (before, last) (omega arith)

-- a number whose digits above the lowest are 0
pub number_of-low : (d k : ℕ) (f : ℕ → ℕ) → 0 < k → ((j : ℕ) → 0 < j → j < k → f j ≡ 0) → number_of d k f ≡ f 0
number_of-low d zero f some none = absurd (omega arith)
number_of-low d (suc k) f some none = number_of-first d k f none

-- behind the first the elements of such a page are its bytes
pub split_value-low : (k n : ℕ) (bytes : List ℕ) (i : ℕ) → 0 < k → GoOnLow k n bytes → 0 < i → i < n
    → get_or bytes i 0 ≡ get_or (split_values k n bytes) i 0
split_value-low k n bytes i some low behind h =
    let here : 0 * n + i ≡ i = simp (zero-mul, zero-add) refl in
    sym (get_or-list_of n (split_value k n bytes) i h
    ∙ number_of-low 8 k (λ j. get_or bytes (j * n + i) 0) some (λ j above g. low i j behind h above g)
    ∙ ap (λ (q : ℕ). get_or bytes q 0) here)

-- elements of bytes fit
pub split_values-fit : (k n : ℕ) (bytes : List ℕ) → ((p : ℕ) → get_or bytes p 0 < 256) → (i d : ℕ) → i < length (split_values k n bytes)
    → get_or (split_values k n bytes) i d < 2 ^ (8 * k)
split_values-fit k n bytes fits i d h =
    let size : length (split_values k n bytes) ≡ n = length-list_of n (split_value k n bytes) in
    let is : get_or (split_values k n bytes) i 0 ≡ split_value k n bytes i = get_or-list_of n (split_value k n bytes) i (omega arith) in
    rw (get_or_default_zero (split_values k n bytes) i d h, is)
    (number_of-lt 8 k (λ j. get_or bytes (j * n + i) 0) (λ j g. fits (j * n + i)))
