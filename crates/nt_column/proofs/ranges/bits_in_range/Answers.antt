use Rattle.std.proofs.Common.{true, get_or, arith}
use Rattle.nt_encode.proofs.Elements.{numbers-are_elements}
use Rattle.nt_column.specs.Bits.{bit_of}
use Rattle.nt_column.proofs.Numbers.{bit-lt}
use Rattle.nt_column.proofs.ranges.bits_in_range.Goals as goal

pub returns : goal.returns
returns c =
    numbers-are_elements bit_of c.args.kind 1 c.args.list.now true c.requires (omega arith) (λ i h. bit-lt (get_or c.args.list.now i true))
