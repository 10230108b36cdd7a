use Rattle.std.proofs.Math.Facts.{Fits-lt-pow}
use Rattle.nt_encode.proofs.Elements.{pairs-are_elements}
use Rattle.nt_column.proofs.Pages.{is_switch}
use Rattle.nt_column.proofs.ranges.pairs_in_range.Goals as goal

pub returns : goal.returns
returns c =
    rw (is_switch c.args.kind c.requires.kind)
    (pairs-are_elements c.args.indices.now c.args.tags.now c.requires.same (λ i h. Fits-lt-pow (c.type_inv.indices i))
    (λ i h. Fits-lt-pow (c.type_inv.tags i)))
