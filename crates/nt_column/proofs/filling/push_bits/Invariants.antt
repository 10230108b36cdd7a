-- the values so far are added, and the last of them is kept
use Rattle.std.proofs.Common.{◌≡◌, ◌++◌, take, map}
use Rattle.std.specs.Vec.{vec_len, vec_capacity}
use Rattle.nt_encode.specs.Delta.{index_before}
use Rattle.nt_encode.specs.Pages.{page_values}
use Rattle.nt_column.specs.Bits.{bit_of}
use Rattle.nt_column.specs.Growing.{HasGrown}
use Rattle.nt_column.proofs.filling.push_bits.Given as goal

abbrev pub invariant-loop-i : goal.invariant-loop-i
invariant-loop-i l = record {
  items : map bit_of l.list.items ≡ map bit_of l.fn.list.items ++ take l.i (page_values l.kind l.count l.bytes);
  last : l.last ≡ index_before (page_values l.kind l.count l.bytes) l.i;
  room : HasGrown l.i (vec_len l.fn.list) (vec_capacity l.fn.list) (vec_len l.list) (vec_capacity l.list);
}
