use Rattle.std.proofs.Common.{◌≡◌, ◌≤◌, ◌+◌, ◌*◌, ◌^◌, ℕ, List, length, sym, subst, arith}
use Rattle.std.specs.List.{slice_range}
use Rattle.std.specs.Str.Parse.{AllDigits, digits_value}
use Rattle.nt_digits.specs.Digits.{DigitsStand}
use Rattle.nt_digits.proofs.Digits.{more-digits, few-small}
use Rattle.nt_digits.proofs.nineteen.digits_behind_eight.Goals as goal

-- digits that were read behind others, where these are raised by a power of ten
more-read : (xs : List ℕ) (at i k n m t : ℕ) → DigitsStand xs at i n → AllDigits 10 (slice_range xs i (i + k))
    → m ≡ digits_value 10 (slice_range xs i (i + k)) → i + k ≤ length xs → i + k ≤ at + 19 → t ≡ 10 ^ k
    → DigitsStand xs at (i + k) (n * t + m)
more-read xs at i k n m t start digits value within few ten =
    subst (λ j. DigitsStand xs at (i + k) (n * j + m)) (sym ten) (more-digits xs at i k n m start digits value within few)

-- up to eight more behind the first eight
next : (xs : List ℕ) (at k n m t : ℕ) → DigitsStand xs at (at + 8) n → AllDigits 10 (slice_range xs (at + 8) (at + 8 + k))
    → m ≡ digits_value 10 (slice_range xs (at + 8) (at + 8 + k)) → k ≤ 8 → at + 16 ≤ length xs → t ≡ 10 ^ k
    → DigitsStand xs at (at + 8 + k) (n * t + m)
next xs at k n m t start digits value few within ten =
    more-read xs at (at + 8) k n m t start digits value (omega (arith, few, within)) (omega (arith, few)) ten

last : (c : goal.After-ten_to-2)
    → DigitsStand c.args.text.now c.args.at (c.args.at + 8 + c.up_to_eight-next.result.1 + c.up_to_eight-last.result.1)
    ((c.args.first * c.ten_to.result + c.up_to_eight-next.result.0) * c.ten_to-2.result + c.up_to_eight-last.result.0)
last c =
    let e = c.up_to_eight-next.ensures in
    let f = c.up_to_eight-last.ensures in
    let t = c.args.text.now in
    let at = c.args.at in
    let j = at + 8 + c.up_to_eight-next.result.1 in
    let n = c.args.first * c.ten_to.result + c.up_to_eight-next.result.0 in
    let start = next t at c.up_to_eight-next.result.1 c.args.first c.up_to_eight-next.result.0 c.ten_to.result
    c.requires e.digits e.value e.few (omega (arith, c.if-text-i-lt8.false, c.requires.within)) c.ten_to.ensures in
    more-read t at j c.up_to_eight-last.result.1 n c.up_to_eight-last.result.0 c.ten_to-2.result start f.digits f.value
    (omega (arith, c.if-text-j-lt8.false, start.within, f.few)) (omega (arith, e.few, c.if-few-gt3.false)) c.ten_to-2.ensures

pub overflow_add-n : goal.overflow_add-n
overflow_add-n c =
    let e = c.up_to_eight-next.ensures in
    let b = next c.args.text.now c.args.at c.up_to_eight-next.result.1 c.args.first c.up_to_eight-next.result.0 c.ten_to.result
    c.requires e.digits e.value e.few (omega (arith, c.if-text-i-lt8.false, c.requires.within)) c.ten_to.ensures in
    let below = few-small c.args.text.now c.args.at _ b.past b.within b.few b.digits in
    omega (arith, below, b.value)

pub returns-then-some-lt8 : goal.returns-then-some-lt8
returns-then-some-lt8 c =
    let e = c.up_to_eight-next.ensures in
    next c.args.text.now c.args.at c.up_to_eight-next.result.1 c.args.first c.up_to_eight-next.result.0 c.ten_to.result
    c.requires e.digits e.value e.few (omega (arith, c.if-text-i-lt8.false, c.requires.within)) c.ten_to.ensures

pub digits_behind-requires-then-text-j-lt8 : goal.digits_behind-requires-then-text-j-lt8
digits_behind-requires-then-text-j-lt8 c =
    let e = c.up_to_eight-next.ensures in
    next c.args.text.now c.args.at c.up_to_eight-next.result.1 c.args.first c.up_to_eight-next.result.0 c.ten_to.result
    c.requires e.digits e.value e.few (omega (arith, c.if-text-i-lt8.false, c.requires.within)) c.ten_to.ensures

pub digits_behind-requires-then-few-gt3 : goal.digits_behind-requires-then-few-gt3
digits_behind-requires-then-few-gt3 c =
    let e = c.up_to_eight-next.ensures in
    next c.args.text.now c.args.at c.up_to_eight-next.result.1 c.args.first c.up_to_eight-next.result.0 c.ten_to.result
    c.requires e.digits e.value e.few (omega (arith, c.if-text-i-lt8.false, c.requires.within)) c.ten_to.ensures

pub overflow_mul-result : goal.overflow_mul-result
overflow_mul-result c =
    let b = last c in
    let below = few-small c.args.text.now c.args.at _ b.past b.within b.few b.digits in
    omega (arith, below, b.value)

pub overflow_add-result : goal.overflow_add-result
overflow_add-result c =
    let b = last c in
    let below = few-small c.args.text.now c.args.at _ b.past b.within b.few b.digits in
    omega (arith, below, b.value)

pub returns : goal.returns
returns c = last c
