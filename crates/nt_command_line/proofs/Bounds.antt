-- Bounds: decimals of numbers that a field may have, and what they say.
use Rattle.std.proofs.Common.{◌≡◌, ◌∙◌, ap, sym, subst, refl, ℕ, suc, ◌<◌, ◌^◌, ℤ, pos, negsuc, List, ◌∷◌, drop, Option, Some, None}
use Rattle.std.proofs.Common.{true, Result, Ok, FitsSigned, arith}
use Rattle.std.specs.Prelude.{int_le, neg_ℤ}
use Rattle.std.specs.Int.{w128}
use Rattle.std.specs.Fmt.{decimal}
use Rattle.std.specs.Str.Parse.{AllDigits, ParsesSigned, digits_value}
use Rattle.std.proofs.lemmas.Bool.Decides.{nat_tests}
use Rattle.std.proofs.lemmas.Fmt.{decimal_is_IsNumeral_wide}
use Rattle.std.proofs.lemmas.Str.Parse.{parse_signed_digits, parse_signed_minus, numerals_by_value, tells_digits, digit_from_value}
use Rattle.std.proofs.lemmas.Result.{Ok-from_Ok_iff}
use Rattle.nt_command_line.specs.SkimWords.{least_number, greatest_number, IsBound, IsBoundSaid, SaidTest, IsTestSaid}

positive_below : (n : ℕ) → int_le (pos n) greatest_number ≡ true → n < 2 ^ 64
positive_below n high = grind (arith, nat_tests, high)

negative_below : (n : ℕ) → int_le least_number (negsuc n) ≡ true → n < 2 ^ 63
negative_below n low = grind (arith, nat_tests, low)

-- the decimal of a bound is read as it
pub bound_is_read : {E : Type 0} (word : List ℕ) (z : ℤ) (r : Result ℤ E) → IsBound word z → ParsesSigned w128 10 word r → r ≡ Ok z
bound_is_read word (pos n) r is reads =
    let below = positive_below n is.high in
    let k = decimal_is_IsNumeral_wide n (omega (arith, below)) in
    let read = parse_signed_digits (numerals_by_value _ tells_digits) w128 (decimal n) r
    (subst (λ (l : List ℕ). ParsesSigned w128 10 l r) is.spelled reads) k.0.1 in
    Ok-from_Ok_iff r _ _ read (k.0.0, omega (arith, k.1, below)) ∙ ap (λ (m : ℕ). Ok (pos m)) k.1
bound_is_read word (negsuc n) r is reads =
    let below = negative_below n is.low in
    let k = decimal_is_IsNumeral_wide (suc n) (omega (arith, below)) in
    let read = parse_signed_minus (numerals_by_value _ tells_digits) w128 (45 ∷ decimal (suc n)) r
    (subst (λ (l : List ℕ). ParsesSigned w128 10 l r) is.spelled reads) refl in
    Ok-from_Ok_iff r _ _ read (k.0.1, k.0.0, omega (arith, k.1, below)) ∙ ap (λ (m : ℕ). Ok (neg_ℤ (pos m))) k.1

-- it fits where it is read
pub bound_fits : (word : List ℕ) (z : ℤ) → IsBound word z → FitsSigned w128 z
bound_fits word (pos n) is = let below = positive_below n is.high in record { sfits = omega (arith, below) }
bound_fits word (negsuc n) is = let below = negative_below n is.low in record { sfits = omega (arith, below) }

-- what is read is one number
pub read_is : {E : Type 0} (y z : ℤ) (r : Result ℤ E) → r ≡ Ok y → r ≡ Ok z → y ≡ z
read_is {E} y z r one other = same (sym one ∙ other)
  where
    same : ◌≡◌ {A = Result ℤ E} (Ok y) (Ok z) → y ≡ z
    same is = cc

decimals_once : (m n : ℕ) → m < 2 ^ 65 → n < 2 ^ 65 → decimal m ≡ decimal n → m ≡ n
decimals_once m n low high same =
    sym (decimal_is_IsNumeral_wide m (omega (arith, low))).1
    ∙ (ap (digits_value 10) same ∙ (decimal_is_IsNumeral_wide n (omega (arith, high))).1)

no_minus : (n : ℕ) (rest : List ℕ) → n < 2 ^ 65 → decimal n ≡ 45 ∷ rest → ⊥
no_minus n rest below same =
    omega (arith, digit_from_value 45 (subst (AllDigits 10) same (decimal_is_IsNumeral_wide n (omega (arith, below))).0.1).0)

-- a word is the decimal of one number
pub bound_once : (word : List ℕ) (y z : ℤ) → IsBound word y → IsBound word z → y ≡ z
bound_once word (pos m) (pos n) one other =
    let low = positive_below m one.high in
    let high = positive_below n other.high in
    ap pos (decimals_once m n (omega (arith, low)) (omega (arith, high)) (sym one.spelled ∙ other.spelled))
bound_once word (pos m) (negsuc n) one other =
    let low = positive_below m one.high in
    absurd (no_minus m (decimal (suc n)) (omega (arith, low)) (sym one.spelled ∙ other.spelled))
bound_once word (negsuc m) (pos n) one other =
    let high = positive_below n other.high in
    absurd (no_minus n (decimal (suc m)) (omega (arith, high)) (sym other.spelled ∙ one.spelled))
bound_once word (negsuc m) (negsuc n) one other =
    let low = negative_below m one.low in
    let high = negative_below n other.low in
    let same = decimals_once (suc m) (suc n) (omega (arith, low)) (omega (arith, high))
    (ap (drop 1) (sym one.spelled ∙ other.spelled)) in
    ap negsuc (omega (arith, same))

said_once : (word : Option (List ℕ)) (else y z : ℤ) → IsBoundSaid word else y → IsBoundSaid word else z → y ≡ z
said_once None else y z one other = one ∙ sym other
said_once (Some word) else y z one other = bound_once word y z one other

test_is : (n n' : List ℕ) (l l' g g' : ℤ) → n ≡ n' → l ≡ l' → g ≡ g'
    → ◌≡◌ {A = Option SaidTest} (Some (record { name = n; least = l; greatest = g }))
    (Some (record { name = n'; least = l'; greatest = g' }))
test_is n n' l l' g g' name least greatest = cc

-- words say one test
pub same_test : (name least greatest : Option (List ℕ)) (t u : Option SaidTest) → IsTestSaid name least greatest t
    → IsTestSaid name least greatest u → t ≡ u
same_test None None None None None one other = refl
same_test None None None None (Some u) one other = absurd other
same_test None None None (Some t) u one other = absurd one
same_test None None (Some g) t u one other = absurd one
same_test None (Some l) g t u one other = absurd one
same_test (Some name) least greatest None u one other = absurd one
same_test (Some name) least greatest (Some t) None one other = absurd other
same_test (Some name) least greatest (Some t) (Some u) one other =
    test_is t.name u.name t.least u.least t.greatest u.greatest (one.0 ∙ sym other.0)
    (said_once least least_number t.least u.least one.1 other.1)
    (said_once greatest greatest_number t.greatest u.greatest one.2 other.2)
