-- the indices stand in the places so far, and the last of them is the total
use Rattle.std.proofs.Common.{◌≡◌, ◌*◌, ◌%◌, ◌^◌, length, sum, take}
use Rattle.nt_encode.specs.Delta.{delta_value}
use Rattle.nt_encode.specs.Split.{split_values}
use Rattle.nt_encode.proofs.Lists.{Filled}
use Rattle.nt_encode.proofs.split.take_low.Given as goal

abbrev pub invariant-loop-i : goal.invariant-loop-i
invariant-loop-i l =
    Filled l.out l.i (delta_value (8 * l.width.bytes) (split_values l.width.bytes (length l.fn.out) l.bytes))
    × (l.total ≡ sum (take l.i (split_values l.width.bytes (length l.fn.out) l.bytes)) % 2 ^ (8 * l.width.bytes))
