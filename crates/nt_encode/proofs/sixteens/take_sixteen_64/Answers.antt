use Rattle.std.proofs.Common.{length}
use Rattle.nt_encode.proofs.Lists.{fits_byte}
use Rattle.nt_encode.proofs.Stores.{filled_16_eights}
use Rattle.nt_encode.proofs.sixteens.take_sixteen_64.Goals as goal

pub returns : goal.returns
returns c =
    filled_16_eights (length c.args.out.now) c.args.i c.args.bytes.now c.args.out.now c.plane-a.result c.plane-b.result c.plane-c.result
    c.plane-d.result c.plane-e.result c.plane-f.result c.plane-g.result c.plane-h.result
    (λ k. fits_byte c.args.bytes.now k c.type_inv.bytes)
    (record {
      a_is = c.plane-a.ensures;
      b_is = c.plane-b.ensures;
      c_is = c.plane-c.ensures;
      d_is = c.plane-d.ensures;
      e_is = c.plane-e.ensures;
      f_is = c.plane-f.ensures;
      g_is = c.plane-g.ensures;
      h_is = c.plane-h.ensures;
    }) c.requires.within c.requires.before
