use Rattle.std.proofs.Common.{◌≡◌, ◌+◌, ◌-◌, ◌++◌, ◌∙◌, ap, take, drop, arith}
use Rattle.nt_print.proofs.short.place_part.Goals as goal

pub returns-clause-text : goal.returns-clause-text
returns-clause-text c =
    let from = c.args.from in
    let place : from + 10 ≡ from + 2 + 8 = omega arith in
    let width : from + 8 - from ≡ 8 = omega arith in
    ap (λ k. take k c.place_eight.new.room) place
    ∙ (c.place_eight.ensures.text ∙ ap (λ k. take (from + 2) c.args.room.now ++ take k (drop from c.args.bytes.now)) width)
