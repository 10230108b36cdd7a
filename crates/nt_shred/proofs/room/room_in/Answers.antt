use Rattle.std.proofs.Common.{◌≡◌, length, ap, arith}
use Rattle.nt_trees.specs.Views.{cols_of}
use Rattle.nt_shred.specs.Frame.{set_frame}
use Rattle.nt_shred.proofs.Sets.{capacity-at, elements-at}
use Rattle.nt_shred.proofs.RoomLeft.{below-narrow}
use Rattle.nt_shred.proofs.room.room_in.Goals as goal

pub returns : goal.returns
returns c = λ some.
    let bs = c.args.out.now in
    let b = c.column-buffer.result.now in
    let at = c.column-buffer.ensures in
    let here : length (cols_of bs c.args.column) ≡ length b.column.elements = ap length (elements-at bs c.args.column b at) in
    record {
      memory = omega (arith, here, capacity-at bs c.args.column b at, c.min.ensures, c.spare.ensures);
      ends = omega (arith, some, here, below-narrow (set_frame bs), c.min.ensures, c.saturating_sub.ensures, c.len.ensures);
    }
