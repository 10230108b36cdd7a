use Rattle.std.proofs.Common.{arith}
use Rattle.nt_event.proofs.InnerBytes.{inner-more, inner-one}
use Rattle.nt_event.proofs.ready.inner_last.Goals as goal

pub loop-i-preserved : goal.loop-i-preserved
loop-i-preserved c =
    let v = c.loop-i.invariant in
    record {
      high = omega (arith, c.loop-i-test.true);
      inner = inner-more c.args.text.now c.loop-i.i 1 v.inner (inner-one c.args.text.now c.loop-i.i c.loop-i-test.true
          c.if-text-i-lt128.true c.if-text-i-ne10.true);
    }
