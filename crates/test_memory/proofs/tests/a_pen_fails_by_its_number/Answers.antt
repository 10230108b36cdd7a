use Rattle.std.proofs.Common.{◌∙◌}
use Rattle.test_memory.proofs.Out.{stays_out}
use Rattle.test_memory.proofs.tests.a_pen_fails_by_its_number.Goals as goal

pub settle-requires-2 : goal.settle-requires-2
settle-requires-2 g c =
    stays_out _ _ _ _ _ c.fill.new.ext.range _ c.fill-2.new.ext.range c.in_ok-whole.ensures.reserves.out
    (c.return_pen.ensures.back.place.out ∙ c.in_ok-torn.ensures.reserves.out)
    (c.fill-2.ensures.fills.range ∙ c.in_ok-torn.ensures.new.range) c.settle.ensures.settles.out (c.fill.ensures.fills.range
    ∙ c.in_ok-whole.ensures.new.range)
