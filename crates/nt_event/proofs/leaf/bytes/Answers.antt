use Rattle.std.proofs.Common.{arith}
use Rattle.serde_json.specs.View.{view}
use Rattle.nt_event.proofs.Steps.{not_one, one_hex}
use Rattle.nt_event.proofs.leaf.bytes.Goals as goal

pub returns-then-len-ne1 : goal.returns-then-len-ne1
returns-then-len-ne1 c = not_one (view c.args.value.now) c.in-Some-as_object.map.now.entries c.in-Some-as_object.ensures
    (λ e. omega (arith, e, c.len.ensures.len, c.if-len-ne1.true))

pub returns-in-Ok : goal.returns-in-Ok
returns-in-Ok c = one_hex (view c.args.value.now) c.in-Some-as_object.map.now.entries (view c.in-Some-get.inner.now)
    c.in-Some-as_str.digits.now c.in-Ok.bytes.items c.in-Some-as_object.ensures (omega (arith, c.len.ensures.len, c.if-len-ne1.false))
    c.in-Some-get.ensures c.in-Some-as_str.ensures c.in-Ok.ensures.ok
