-- the indices so far are added
use Rattle.std.proofs.Common.{◌≡◌, ◌++◌, take}
use Rattle.std.specs.Vec.{vec_len, vec_capacity}
use Rattle.nt_encode.specs.Switch.{switch_indices}
use Rattle.nt_column.specs.Growing.{HasGrown}
use Rattle.nt_column.proofs.filling.push_indices.Given as goal

abbrev pub invariant-loop-i : goal.invariant-loop-i
invariant-loop-i l = record {
  items : l.list.items ≡ l.fn.list.items ++ take l.i (switch_indices l.count l.bytes);
  room : HasGrown l.i (vec_len l.fn.list) (vec_capacity l.fn.list) (vec_len l.list) (vec_capacity l.list);
}
