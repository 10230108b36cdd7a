use Rattle.std.proofs.Common.{◌≡◌, ◌+◌, true, sym, arith, get_or, subst}
use Rattle.std.proofs.lemmas.Grind.{common_steps}
use Rattle.std.specs.Char.{encode_utf8}
use Rattle.json.specs.Text.{after_high, is_low_surrogate}
use Rattle.json.specs.Lex.{in_string}
use Rattle.nt_event.specs.Plain.{EscapeStands}
use Rattle.nt_event.proofs.InStrings.{low-stands}
use Rattle.nt_event.proofs.escapes.pair.Goals as goal

pub returns : goal.returns
returns c =
    let t = c.args.text.now in
    let at = c.args.at in
    let low = c.in_ok-low.low in
    let slash : get_or t at 0 ≡ 92 = grind (arith, common_steps, c.if-not-text-at.false) in
    let u : get_or t (at + 1) 0 ≡ 117 = grind (arith, common_steps, c.if-not-text-at.false) in
    let low_half : is_low_surrogate low ≡ true = grind (arith, common_steps, c.if-not-low.false) in
    subst (λ x. EscapeStands (after_high c.args.high) in_string (encode_utf8 x) t at (at + 6)) (sym c.in_ok-c.ensures.value.1)
    (low-stands t at c.args.high low (omega (arith, c.requires, c.if-text-at-lt6.false)) slash u (sym c.in_ok-low.ensures.value) low_half)
