use Rattle.std.proofs.Common.{◌≡◌, ◌+◌, ◌*◌, get_or, arith, sym, ap, ◌∙◌, subst}
use Rattle.std.specs.List.{slice_range}
use Rattle.std.specs.Str.Parse.{AllDigits, digits_value}
use Rattle.nt_digits.proofs.Digits.{range-next, range-length, value-next, digits-next, value-short, digit-range}
use Rattle.nt_digits.proofs.nineteen.digits_behind.Goals as goal

pub overflow_mul-n : goal.overflow_mul-n
overflow_mul-n c =
    let v = c.loop-i.invariant in
    omega (
      arith,
      v.value,
      v.past,
      c.if-i-at-lt19.true,
      value-short _ v.digits (omega (
        arith,
        range-length c.args.text.now c.args.at c.loop-i.i v.past v.within,
        v.past,
        c.if-i-at-lt19.true,
      )),
    )

pub overflow_add-n : goal.overflow_add-n
overflow_add-n c =
    let v = c.loop-i.invariant in
    let short = value-short _ v.digits (omega (
      arith,
      range-length c.args.text.now c.args.at c.loop-i.i v.past v.within,
      v.past,
      c.if-i-at-lt19.true,
    )) in
    let digit = digit-range (get_or c.args.text.now c.loop-i.i 0) (sym c.is_ascii_digit.ensures.value ∙ c.if-is_ascii_digit.true) in
    omega (arith, v.value, short, c.from.ensures, digit.1)

pub loop-i-preserved : goal.loop-i-preserved
loop-i-preserved c =
    let v = c.loop-i.invariant in
    let xs = c.args.text.now in
    let digit = digit-range (get_or c.args.text.now c.loop-i.i 0) (sym c.is_ascii_digit.ensures.value ∙ c.if-is_ascii_digit.true) in
    let value = value-next (slice_range xs c.args.at c.loop-i.i) (get_or xs c.loop-i.i 0) in
    let next = range-next xs c.args.at c.loop-i.i v.past c.loop-i-test.true in
    let whole : c.loop-i.n * 10 + c.from.result ≡ digits_value 10 (slice_range xs c.args.at (c.loop-i.i + 1)) =
    omega (arith, ap (digits_value 10) next, value, v.value, c.from.ensures, digit.2, digit.0) in
    record {
      past = omega (arith, v.past);
      within = omega (arith, c.loop-i-test.true);
      few = omega (arith, v.past, c.if-i-at-lt19.true);
      digits = subst (AllDigits 10) (sym next) (digits-next _ _ v.digits (omega (arith, digit.1, digit.2)));
      value = whole;
    }
