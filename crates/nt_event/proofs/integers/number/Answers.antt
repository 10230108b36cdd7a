use Rattle.std.proofs.Common.{◌<◌, ◌+◌, decimal, refl, sym, subst, arith}
use Rattle.nt_event.specs.Standing.{StandsFrom}
use Rattle.nt_digits.proofs.Digits.{few-small, first-digits}
use Rattle.nt_event.proofs.Decimals.{printed}
use Rattle.nt_event.proofs.integers.number.Goals as goal

pub returns : goal.returns
returns c =
    let t = c.args.text.now in
    let at = c.args.at in
    let k = c.up_to_eight-n.result.1 in
    let e = c.up_to_eight-n.ensures in
    let start = first-digits t at k c.up_to_eight-n.result.0 e.digits e.value
    (omega (arith, c.if-text-at-lt8.false, c.requires, e.few)) (omega (arith, e.few)) in
    let some : at < at + k = omega (arith, c.if-few-eq0.false) in
    subst (λ n. StandsFrom (decimal n) t at (at + k)) (sym e.value)
    (printed t at (at + k) some start.within e.digits (c.if-not-has_no_zeros.ensures refl)
    (few-small t at (at + k) start.past start.within start.few e.digits))
