use Rattle.std.proofs.Common.{arith}
use Rattle.nt_open.proofs.ByField.{items_at-set}
use Rattle.nt_open.proofs.grouped.push_at.Goals as goal

pub returns-clause-items : goal.returns-clause-items
returns-clause-items g c =
    items_at-set c.args.lists.now.items c.args.at c.push.new.self c.index_mut-list.result.now c.args.item (omega arith)
    (cc (c.in_ok-push.ensures.items, c.index_mut-list.ensures.value))
