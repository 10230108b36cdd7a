use Rattle.std.proofs.Common.{arith}
use Rattle.nt_shred.proofs.AsciiBytes.{ascii-more, ascii-one}
use Rattle.nt_shred.proofs.ascii.is_short_ascii.Goals as goal

pub loop-i-preserved : goal.loop-i-preserved
loop-i-preserved c =
    let v = c.loop-i.invariant in
    record {
      high = omega (arith, c.loop-i-test.true);
      ascii = ascii-more c.args.text.now c.loop-i.i 1 v.ascii (ascii-one c.args.text.now c.loop-i.i c.loop-i-test.true
          c.if-text-i-lt128.true);
    }
