use Rattle.std.proofs.Common.{◌*◌, ◌+◌, ◌≤◌, ◌^◌, sym, ◌∙◌, arith}
use Rattle.nt_encode.specs.Split.{split_value}
use Rattle.nt_encode.proofs.Digits.{number_of-lt}
use Rattle.nt_encode.proofs.Lists.{fits_byte, get_or-list_of}
use Rattle.nt_encode.proofs.Low.{split_value-low}
use Rattle.nt_encode.proofs.Powers.{word-le}
use Rattle.nt_encode.proofs.split.low_word.Goals as goal

pub returns-then-i-eq0-clause-word : goal.returns-then-i-eq0-clause-word
returns-then-i-eq0-clause-word c =
    let k = c.args.width.bytes in
    let bytes = c.args.bytes.now in
    let some = rw c.if-i-eq0.true at c.requires.within in
    rw c.if-i-eq0.true (c.number_at.ensures ∙ sym (get_or-list_of c.args.count (split_value k c.args.count bytes) 0 some))

pub returns-else-i-eq0-clause-word : goal.returns-else-i-eq0-clause-word
returns-else-i-eq0-clause-word c =
    c.from.ensures
    ∙ split_value-low c.args.width.bytes c.args.count c.args.bytes.now c.args.i c.args.width.some c.requires.low
    (omega (arith, c.if-i-eq0.false)) c.requires.within

pub returns-then-i-eq0-clause-fits : goal.returns-then-i-eq0-clause-fits
returns-then-i-eq0-clause-fits c =
    rw c.number_at.ensures (number_of-lt 8 c.args.width.bytes _ (λ j g. fits_byte c.args.bytes.now (j * c.args.count + 0) c.type_inv.bytes))

pub returns-else-i-eq0-clause-fits : goal.returns-else-i-eq0-clause-fits
returns-else-i-eq0-clause-fits c =
    let power : 2 ^ 8 ≤ 2 ^ (8 * c.args.width.bytes) = word-le 8 (8 * c.args.width.bytes) (omega (arith, c.args.width.some)) in
    omega (arith, power, fits_byte c.args.bytes.now c.args.i c.type_inv.bytes)
