use Rattle.std.proofs.Common.{◌≡◌, ◌+◌, false, sym, arith, subst}
use Rattle.std.specs.Char.{encode_utf8}
use Rattle.json.specs.Text.{after_u, after_high, is_low_surrogate}
use Rattle.json.specs.Lex.{in_string}
use Rattle.nt_event.specs.Plain.{EscapeStands}
use Rattle.nt_event.proofs.InStrings.{unit-stands, high-then, some-then}
use Rattle.nt_event.proofs.escapes.unicode.Goals as goal

pub returns-then-unit : goal.returns-then-unit
returns-then-unit c =
    let t = c.args.text.now in
    let at = c.args.at in
    let u = c.in_ok-unit.unit in
    some-then c.pair.result (λ r. EscapeStands (after_high u) in_string (encode_utf8 r.0) t (at + 4) r.1)
    (λ r. EscapeStands after_u in_string (encode_utf8 r.0) t at r.1)
    (λ r h. high-then t (encode_utf8 r.0) at u r.1 (omega (arith, c.requires, c.if-text-at-lt4.false)) (sym c.in_ok-unit.ensures.value)
    c.if-unit.true h) c.pair.ensures

pub returns : goal.returns
returns c =
    let t = c.args.text.now in
    let at = c.args.at in
    let u = c.in_ok-unit.unit in
    let low : is_low_surrogate u ≡ false = grind (arith, c.in_ok-c.ensures.cases) in
    subst (λ x. EscapeStands after_u in_string (encode_utf8 x) t at (at + 4)) (sym c.in_ok-c.ensures.value.1)
    (unit-stands t at u (omega (arith, c.requires, c.if-text-at-lt4.false)) (sym c.in_ok-unit.ensures.value) c.if-unit.false low)
