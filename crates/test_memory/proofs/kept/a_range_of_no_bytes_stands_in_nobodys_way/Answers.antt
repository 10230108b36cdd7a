use Rattle.test_memory.proofs.Out.{stays_out}
use Rattle.test_memory.proofs.kept.a_range_of_no_bytes_stands_in_nobodys_way.Goals as goal

pub settle-requires-2 : goal.settle-requires-2
settle-requires-2 g c =
    stays_out _ _ _ _ _ c.in_ok-one.one.range _ c.in_ok-other.other.range c.in_ok-one.ensures.reserves.out
    c.in_ok-other.ensures.reserves.out
    c.in_ok-other.ensures.new.range c.settle.ensures.settles.out c.in_ok-one.ensures.new.range
