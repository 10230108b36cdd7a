use Rattle.std.proofs.Common.{ℕ, arith}
use Rattle.std.proofs.Math.Facts.{Fits-lt-pow}
use Rattle.nt_encode.proofs.Elements.{numbers-are_elements}
use Rattle.nt_column.proofs.ranges.in_range_16.Goals as goal

pub returns : goal.returns
returns c =
    numbers-are_elements (λ (n : ℕ). n) c.args.kind 16 c.args.list.now 0 c.requires (omega arith) (λ i h. Fits-lt-pow (c.type_inv.list i))
