use Rattle.std.proofs.Common.{arith, sym, subst}
use Rattle.nt_event.specs.Plain.{AllPlain}
use Rattle.nt_digits.proofs.Digits.{range-next}
use Rattle.nt_event.proofs.Plain.{plain-next}
use Rattle.nt_event.proofs.quoted.plain_last.Goals as goal

pub loop-i-preserved : goal.loop-i-preserved
loop-i-preserved c =
    let v = c.loop-i.invariant in
    record {
      low = omega (arith, v.low);
      high = omega (arith, c.loop-i-test.true);
      plain = subst AllPlain (sym (range-next c.args.text.now c.args.at c.loop-i.i v.low c.loop-i-test.true))
          (plain-next _ _ v.plain (c.is_plain.ensures c.if-is_plain.true));
    }
