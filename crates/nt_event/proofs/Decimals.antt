-- Digits as they are printed.
use Rattle.std.proofs.Common.{◌≡◌, true, ℕ, ◌+◌, ◌-◌, ◌*◌, ◌^◌, ◌<◌, ◌≤◌, List, ◌++◌, length, drop, get_or, decimal}
use Rattle.std.proofs.Common.{refl, sym, ap, ◌∙◌, arith, subst, get_or-drop}
use Rattle.std.proofs.lemmas.List.{get_or-take}
use Rattle.std.proofs.lemmas.List.Folds.{drop_split}
use Rattle.std.proofs.lemmas.Str.Parse.{tells_digits, numerals_by_value}
use Rattle.std.proofs.lemmas.Fmt.{decimal-digits_value}
use Rattle.std.specs.List.{slice_range}
use Rattle.std.specs.Char.{digit_value, is_ascii_digit}
use Rattle.std.specs.Str.Parse.{AllDigits, digits_value}
use Rattle.nt_event.specs.Standing.{StandsFrom}
use Rattle.nt_digits.proofs.Digits.{range-next, value-next, digits-next, range-length, digit-range}

-- digits as they are printed
pub printed : (xs : List ℕ) (at i : ℕ) → at < i → i ≤ length xs → AllDigits 10 (slice_range xs at i) → (get_or xs at 0 ≡ 48 → i ≤ at + 1)
    → digits_value 10 (slice_range xs at i) < 2 ^ 64
    → StandsFrom (decimal (digits_value 10 (slice_range xs at i))) xs at i
printed xs at i some high digits first small =
    let ds = slice_range xs at i in
    let len = range-length xs at i (omega arith) high in
    let own = numerals_by_value (AllDigits 10) tells_digits in
    let here : at + 0 ≡ at = omega arith in
    let head : get_or ds 0 0 ≡ get_or xs at 0 = get_or-take (i - at) (drop at xs) 0 0 (omega arith) ∙ get_or-drop at xs 0 0
    ∙ ap (λ j. get_or xs j 0) here in
    let same = decimal-digits_value own ds digits (omega (arith, len)) (λ e. omega (arith, len, first (sym head ∙ e))) small in
    record {
      part_is = drop_split xs at i (omega arith) ∙ ap (λ l. l ++ drop i xs) (sym same);
      within = high;
      some = some;
    }

-- the same with one digit more
pub printed-next : (xs : List ℕ) (at i m : ℕ) → at < i → i < length xs → AllDigits 10 (slice_range xs at i)
    → (get_or xs at 0 ≡ 48 → i ≤ at + 1) → i ≡ at + 19 → is_ascii_digit (get_or xs i 0) ≡ true
    → m ≡ digits_value 10 (slice_range xs at i) * 10 + digit_value (get_or xs i 0) → m < 2 ^ 64 → StandsFrom (decimal m) xs at (i + 1)
printed-next xs at i m some lt digits first full is_digit value small =
    let c = get_or xs i 0 in
    let d = digit-range c is_digit in
    let next = range-next xs at i (omega arith) lt in
    let whole : m ≡ digits_value 10 (slice_range xs at (i + 1)) = value
    ∙ sym (ap (digits_value 10) next ∙ value-next (slice_range xs at i) c) in
    let all : AllDigits 10 (slice_range xs at (i + 1)) =
    subst (AllDigits 10) (sym next) (digits-next (slice_range xs at i) c digits (omega (arith, d.1, d.2))) in
    subst (λ n. StandsFrom (decimal n) xs at (i + 1)) (sym whole)
    (printed xs at (i + 1) (omega (arith, some)) (omega (arith, lt)) all (λ e. absurd (omega (arith, first e, full)))
    (omega (arith, ap (λ n. n + 0) whole, small)))
