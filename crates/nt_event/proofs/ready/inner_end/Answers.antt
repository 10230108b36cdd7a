use Rattle.std.proofs.Common.{arith, drop, subst}
use Rattle.std.proofs.lemmas.List.{length-take, take-take}
use Rattle.std.specs.Int.Count.{count_trailing_zeros}
use Rattle.nt_event.specs.LineParts.{AllInner}
use Rattle.nt_event.proofs.InnerBytes.{inner-more}
use Rattle.nt_event.proofs.ready.inner_end.Goals as goal

pub returns-then-found-ne0-clause-inner : goal.returns-then-found-ne0-clause-inner
returns-then-found-ne0-clause-inner c =
    let rest = drop c.loop-i.i c.args.text.now in
    let count = count_trailing_zeros 64 c.stops-found.result in
    let stop = c.stops-found.ensures.first c.if-found-ne0.true in
    inner-more c.args.text.now c.loop-i.i count c.loop-i.invariant.inner
    (subst AllInner (take-take count 16 rest (omega (arith, stop.high, length-take 16 rest))) stop.before)

pub loop-i-preserved : goal.loop-i-preserved
loop-i-preserved c =
    let v = c.loop-i.invariant in
    record {
      high = omega (arith, v.high, c.loop-i-test.true);
      inner = inner-more c.args.text.now c.loop-i.i 16 v.inner (c.stops-found.ensures.none c.if-found-ne0.false);
    }
