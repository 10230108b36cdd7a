use Rattle.std.proofs.Common.{◌∙◌}
use Rattle.test_memory.proofs.Out.{stays_out}
use Rattle.test_memory.proofs.kept.ranges_are_settled_in_any_order.Goals as goal

pub settle-requires-2 : goal.settle-requires-2
settle-requires-2 g c =
    stays_out _ _ _ _ _ c.fill-2.new.ext.range _ c.fill.new.ext.range c.in_ok-first.ensures.reserves.out
    (c.append-2.ensures.appends.out ∙ c.in_ok-second.ensures.reserves.out)
    (c.fill.ensures.fills.range ∙ c.in_ok-second.ensures.new.range) c.settle.ensures.settles.out (c.fill-2.ensures.fills.range
    ∙ c.in_ok-first.ensures.new.range)
