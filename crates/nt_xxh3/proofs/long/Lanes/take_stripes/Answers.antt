use Rattle.std.proofs.Common.{◌≡◌, ◌+◌, ◌-◌, ◌*◌, refl, arith}
use Rattle.nt_xxh3.proofs.Stripes.{stripes_none, stripes_next}
use Rattle.nt_xxh3.proofs.long.Lanes.take_stripes.Goals as goal

pub loop-k-init : goal.loop-k-init
loop-k-init c = λ m len is. stripes_none m c.args.bytes.now _ _ len is

pub loop-k-preserved : goal.loop-k-preserved
loop-k-preserved c = λ m len is.
    let width : 64 * c.loop-k.k + 64 - 64 * c.loop-k.k ≡ 64 = omega arith in
    stripes_next m c.args.bytes.now _ _ _ _ _ len (c.loop-k.invariant m len is) refl (rw width at c.after-words.ensures)
