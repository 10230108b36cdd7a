use Rattle.std.proofs.Common.{length}
use Rattle.nt_encode.proofs.Lists.{fits_byte}
use Rattle.nt_encode.proofs.Stores.{filled_16_fours}
use Rattle.nt_encode.proofs.sixteens.take_sixteen_32.Goals as goal

pub returns : goal.returns
returns c =
    filled_16_fours (length c.args.out.now) c.args.i c.args.bytes.now c.args.out.now
    c.plane-a.result c.plane-b.result c.plane-c.result c.plane-d.result
    (λ k. fits_byte c.args.bytes.now k c.type_inv.bytes)
    c.plane-a.ensures c.plane-b.ensures c.plane-c.ensures c.plane-d.ensures
    c.requires.within c.requires.before
