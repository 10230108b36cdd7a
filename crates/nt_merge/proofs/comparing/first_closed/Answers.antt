use Rattle.std.proofs.Common.{◌∙◌, ◌<◌, length, sym, arith}
use Rattle.nt_merge.proofs.Unlike.{closed_some, closed_here, closed_later}
use Rattle.nt_merge.proofs.comparing.first_closed.Goals as goal

pub returns-then-is_closed : goal.returns-then-is_closed
returns-then-is_closed c =
    let t = c.args.schema.now in
    let some : c.loop-id.id < length t.fields = omega (arith, c.loop-id-test.true, c.fields-id-end.ensures) in
    sym (closed_some t (λ none. c.if-fields-eq0.false (c.fields.ensures ∙ none))
    ∙ closed_here t c.loop-id.id c.is_closed.result some c.is_closed.ensures c.if-is_closed.true c.loop-id.invariant.left)

pub loop-id-preserved : goal.loop-id-preserved
loop-id-preserved c =
    let t = c.args.schema.now in
    let some : c.loop-id.id < length t.fields = omega (arith, c.loop-id-test.true, c.fields-id-end.ensures) in
    record { left = closed_later t c.loop-id.id c.is_closed.result some c.is_closed.ensures c.if-is_closed.false c.loop-id.invariant.left }
