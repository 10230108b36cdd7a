use Rattle.std.proofs.Common.{◌≡◌, ◌++◌, drop}
use Rattle.std.specs.Prelude.{codes}
use Rattle.std.specs.List.{flat_map}
use Rattle.nt_store.specs.Orders.{number_text}
use Rattle.nt_store.proofs.orders.order_line.Given as goal

abbrev pub invariant-loop-context : goal.invariant-loop-context
invariant-loop-context l = codes "order" ++ flat_map number_text l.order ≡ l.line.items ++ flat_map number_text (drop l.context-index
    l.order)
