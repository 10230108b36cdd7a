use Rattle.std.proofs.Common.{arith}
use Rattle.nt_shred.proofs.AsciiBytes.{ascii-more}
use Rattle.nt_shred.proofs.ascii.ascii_eights.Goals as goal

pub loop-i-preserved : goal.loop-i-preserved
loop-i-preserved c =
    let v = c.loop-i.invariant in
    record {
      high = omega (arith, v.high);
      ascii = ascii-more c.args.text.now c.loop-i.i 8 v.ascii (c.others.ensures c.if-others-eq0.true);
    }
