use Rattle.std.proofs.Common.{◌≡◌, ℕ, List, length, arith}
use Rattle.nt_encode.specs.Switch.{switch_index, switch_indices}
use Rattle.nt_encode.proofs.Lists.{length-list_of}
use Rattle.nt_column.proofs.Growing.{values-more, values-all}
use Rattle.nt_column.proofs.filling.push_indices.Goals as goal

pub loop-i-preserved : goal.loop-i-preserved
loop-i-preserved c =
    let indices : List ℕ = switch_indices c.args.count c.args.bytes.now in
    let count : length indices ≡ c.args.count = length-list_of c.args.count (switch_index c.args.bytes.now) in
    record {
      items = rw c.push_reserved.ensures.items
          (values-more c.args.list.now.items c.loop-i.list.items indices c.loop-i.i c.index_of_pair.result
          c.loop-i.invariant.items (omega arith) c.index_of_pair.ensures);
      room = record { longer = omega arith; within = omega arith };
    }

pub returns-clause-items : goal.returns-clause-items
returns-clause-items c =
    values-all c.args.list.now.items c.loop-i.list.items (switch_indices c.args.count c.args.bytes.now) c.loop-i.i c.loop-i.invariant.items
    (omega (arith, length-list_of c.args.count (switch_index c.args.bytes.now)))
