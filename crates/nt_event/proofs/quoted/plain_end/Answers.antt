use Rattle.std.proofs.Common.{drop, arith, sym, subst}
use Rattle.std.proofs.lemmas.List.{take-take}
use Rattle.nt_event.specs.Plain.{AllPlain}
use Rattle.nt_event.proofs.Plain.{plain-append, range-more}
use Rattle.nt_event.proofs.quoted.plain_end.Goals as goal

pub returns-then-count-lt8-clause-plain : goal.returns-then-count-lt8-clause-plain
returns-then-count-lt8-clause-plain c =
    let v = c.loop-i.invariant in
    subst AllPlain (sym (range-more c.args.text.now c.args.at c.loop-i.i c.plain_of-count.result v.low))
    (plain-append _ _ v.plain
    (subst AllPlain (take-take c.plain_of-count.result 8 (drop c.loop-i.i c.args.text.now) c.plain_of-count.ensures.few)
    c.plain_of-count.ensures.plain))

pub loop-i-preserved : goal.loop-i-preserved
loop-i-preserved c =
    let v = c.loop-i.invariant in
    record {
      low = omega (arith, v.low);
      high = omega (arith, v.high, c.loop-i-test.true, c.plain_of-count.ensures.few);
      plain = subst AllPlain (sym (range-more c.args.text.now c.args.at c.loop-i.i c.plain_of-count.result v.low))
          (plain-append _ _ v.plain
          (subst AllPlain (take-take c.plain_of-count.result 8 (drop c.loop-i.i c.args.text.now) c.plain_of-count.ensures.few)
          c.plain_of-count.ensures.plain));
    }
