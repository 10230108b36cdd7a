use Rattle.std.proofs.Common.{arith}
use Rattle.nt_shred.proofs.AsciiBytes.{ascii-more}
use Rattle.nt_shred.proofs.ascii.ascii_sixteens.Goals as goal

pub loop-i-preserved : goal.loop-i-preserved
loop-i-preserved c =
    let v = c.loop-i.invariant in
    record {
      high = omega (arith, v.high);
      ascii = ascii-more c.args.text.now c.loop-i.i 16 v.ascii (c.others_of_sixteen.ensures c.if-others_of_sixteen-eq0.true);
    }
