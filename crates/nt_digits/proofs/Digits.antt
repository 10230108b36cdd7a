-- Digits from a place on.
use Rattle.std.proofs.Common.{◌≡◌, nat_le, suc, true, ℕ, ◌+◌, ◌-◌, ◌*◌, ◌^◌, ◌<◌, ◌≤◌, List, [], ◌∷◌, ◌++◌, length, take, drop, get_or}
use Rattle.std.proofs.Common.{refl, sym, ap, ◌∙◌, arith, subst, length-drop, length-take-le, get_or-drop}
use Rattle.std.proofs.Math.Nat.{pow-succ'}
use Rattle.std.proofs.Math.Seq.{take-add}
use Rattle.std.proofs.lemmas.List.{take_more, drop-drop}
use Rattle.std.proofs.lemmas.Bool.{and_parts, leb-true}
use Rattle.std.proofs.lemmas.Str.{digit_value_digit}
use Rattle.std.proofs.lemmas.Str.Parse.{tells_digits, numerals_by_value, digits_value_short}
use Rattle.std.specs.List.{slice_range}
use Rattle.std.specs.Char.{digit_value, is_ascii_digit}
use Rattle.std.specs.Str.Parse.{AllDigits, digits_value_after, digits_value}
use Rattle.nt_digits.specs.Digits.{DigitsStand}

pub range-next : (xs : List ℕ) (at i : ℕ) → at ≤ i → i < length xs → slice_range xs at (i + 1) ≡ slice_range xs at i ++ get_or xs i 0 ∷ []
range-next xs at i le h =
    let step : (i + 1) - at ≡ (i - at) + 1 = omega arith in
    let back : at + (i - at) ≡ i = omega arith in
    ap (λ n. take n (drop at xs)) step ∙ take_more (drop at xs) (i - at) 0 (omega (arith, length-drop at xs))
    ∙ ap (λ c. take (i - at) (drop at xs) ++ c ∷ []) (get_or-drop at xs (i - at) 0 ∙ ap (λ j. get_or xs j 0) back)

after-next : (n : ℕ) (ds : List ℕ) (c : ℕ) → digits_value_after 10 n (ds ++ c ∷ []) ≡ digits_value_after 10 n ds * 10 + digit_value c
after-next n [] c = refl
after-next n (d ∷ ds) c = after-next (n * 10 + digit_value d) ds c

pub value-next : (ds : List ℕ) (c : ℕ) → digits_value 10 (ds ++ c ∷ []) ≡ digits_value 10 ds * 10 + digit_value c
value-next ds c = after-next 0 ds c

pub digits-next : (ds : List ℕ) (c : ℕ) → AllDigits 10 ds → digit_value c < 10 → AllDigits 10 (ds ++ c ∷ [])
digits-next [] c h k = (k, tt)
digits-next (d ∷ ds) c h k = (h.0, digits-next ds c h.1 k)

pub value-short : (ds : List ℕ) → AllDigits 10 ds → length ds ≤ 18 → digits_value 10 ds < 10 ^ 18
value-short ds h few = digits_value_short (numerals_by_value (AllDigits 10) tells_digits) ds 18 h few

pub range-length : (xs : List ℕ) (at i : ℕ) → at ≤ i → i ≤ length xs → length (slice_range xs at i) ≡ i - at
range-length xs at i le h = length-take-le (i - at) (drop at xs) (omega (arith, length-drop at xs))

pub digit-range : (c : ℕ) → is_ascii_digit c ≡ true → (48 ≤ c) × (c ≤ 57) × (digit_value c + 48 ≡ c)
digit-range c h =
    let p = and_parts (nat_le 48 c) (nat_le c 57) h in
    let low = leb-true 48 c p.0 in
    let high = leb-true c 57 p.1 in
    (low, high, digit_value_digit c (low, high))

pub few-small : (xs : List ℕ) (at i : ℕ) → at ≤ i → i ≤ length xs → i ≤ at + 19 → AllDigits 10 (slice_range xs at i)
    → digits_value 10 (slice_range xs at i) < 2 ^ 64
few-small xs at i le high few digits =
    let short : digits_value 10 (slice_range xs at i) < 10 ^ 19 =
    digits_value_short (numerals_by_value (AllDigits 10) tells_digits) (slice_range xs at i) 19 digits
    (omega (arith, range-length xs at i le high)) in
    omega (arith, short)

-- ---- digits that stand in a text

pub no-digits : (xs : List ℕ) (at : ℕ) → at ≤ length xs → DigitsStand xs at at 0
no-digits xs at h =
    let none : at - at ≡ 0 = omega arith in
    let empty : slice_range xs at at ≡ [] = ap (λ n. take n (drop at xs)) none in
    record {
      value = sym (ap (digits_value 10) empty);
      digits = subst (AllDigits 10) (sym empty) tt;
      past = omega arith;
      within = h;
      few = omega arith;
    }

after-all : (before : ℕ) (ds : List ℕ) → digits_value_after 10 before ds ≡ before * 10 ^ length ds + digits_value 10 ds
after-all before [] = omega arith
after-all before (d ∷ ds) =
    let power : 10 ^ suc (length ds) ≡ 10 * 10 ^ length ds = pow-succ' 10 (length ds) in
    let all : before * 10 ^ suc (length ds) ≡ before * (10 * 10 ^ length ds) = ap (λ n. before * n) power in
    omega (arith, all, after-all (before * 10 + digit_value d) ds, after-all (0 * 10 + digit_value d) ds)

value-append : (before : ℕ) (ds es : List ℕ) →
    digits_value_after 10 before (ds ++ es) ≡ digits_value_after 10 (digits_value_after 10 before ds) es
value-append before [] es = refl
value-append before (d ∷ ds) es = value-append (before * 10 + digit_value d) ds es

digits-append : (ds es : List ℕ) → AllDigits 10 ds → AllDigits 10 es → AllDigits 10 (ds ++ es)
digits-append [] es h k = k
digits-append (d ∷ ds) es h k = (h.0, digits-append ds es h.1 k)

-- digits behind others
pub more-digits : (xs : List ℕ) (at i k n m : ℕ) → DigitsStand xs at i n → AllDigits 10 (slice_range xs i (i + k))
    → m ≡ digits_value 10 (slice_range xs i (i + k)) → i + k ≤ length xs → i + k ≤ at + 19 → DigitsStand xs at (i + k) (n * 10 ^ k + m)
more-digits xs at i k n m d digits value within few =
    let first = slice_range xs at i in
    let last = slice_range xs i (i + k) in
    let count : (i + k) - at ≡ (i - at) + k = omega (arith, d.past) in
    let back : at + (i - at) ≡ i = omega (arith, d.past) in
    let own : k ≡ (i + k) - i = omega arith in
    let rest : take k (drop (i - at) (drop at xs)) ≡ last =
    ap (take k) (drop-drop (i - at) at xs ∙ ap (λ j. drop j xs) back) ∙ ap (λ j. take j (drop i xs)) own in
    let joined : slice_range xs at (i + k) ≡ first ++ last =
    ap (λ j. take j (drop at xs)) count ∙ take-add (i - at) k (drop at xs) ∙ ap (λ l. first ++ l) rest in
    let len : length last ≡ k = range-length xs i (i + k) (omega arith) within ∙ sym own in
    let whole : digits_value 10 (first ++ last) ≡ n * 10 ^ k + m =
    value-append 0 first last ∙ after-all (digits_value 10 first) last ∙ ap (λ j. digits_value 10 first * 10 ^ j + digits_value 10 last) len
    ∙ ap (λ j. j * 10 ^ k + digits_value 10 last) (sym d.value) ∙ ap (λ j. n * 10 ^ k + j) (sym value) in
    record {
      value = sym (ap (digits_value 10) joined ∙ whole);
      digits = subst (AllDigits 10) (sym joined) (digits-append first last d.digits digits);
      past = omega (arith, d.past);
      within = within;
      few = few;
    }

-- the first ones
pub first-digits : (xs : List ℕ) (at k m : ℕ) → AllDigits 10 (slice_range xs at (at + k)) → m ≡ digits_value 10 (slice_range xs at (at + k))
    → at + k ≤ length xs → k ≤ 19 → DigitsStand xs at (at + k) m
first-digits xs at k m digits value within few = record {
  value = value;
  digits = digits;
  past = omega arith;
  within = within;
  few = omega (arith, few);
}
