use Rattle.std.proofs.Common.{◌<◌, ◌+◌, ◌*◌, get_or, decimal, length, refl, sym, ap, ◌∙◌, subst, arith}
use Rattle.std.specs.Char.{digit_value}
use Rattle.nt_event.specs.Standing.{StandsFrom}
use Rattle.nt_digits.proofs.Digits.{few-small}
use Rattle.nt_event.proofs.Decimals.{printed, printed-next}
use Rattle.nt_event.proofs.integers.ended.Goals as goal

pub returns-then-end-at-lt19 : goal.returns-then-end-at-lt19
returns-then-end-at-lt19 c =
    let t = c.args.text.now in
    let at = c.args.at in
    let end = c.args.end in
    let e = c.requires in
    let some : at < end = omega (arith, e.past, c.if-end-at.false) in
    subst (λ n. StandsFrom (decimal n) t at end) (sym e.value)
    (printed t at end some e.within e.digits (c.if-not-has_no_zeros.ensures refl)
    (few-small t at end e.past e.within e.few e.digits))

pub returns : goal.returns
returns c =
    let t = c.args.text.now in
    let at = c.args.at in
    let end = c.args.end in
    let e = c.requires in
    let m = c.in_ok-all.ensures in
    let some : at < end = omega (arith, e.past, c.if-end-at.false) in
    let lt : end < length t = omega (arith, e.within, c.if-end-text.false) in
    printed-next t at end c.in_ok-all.all some lt e.digits (c.if-not-has_no_zeros.ensures refl)
    (omega (arith, e.few, c.if-end-at-lt19.false)) m.2
    (m.0 ∙ ap (λ n. n * 10 + digit_value (get_or t end 0)) e.value) m.1
