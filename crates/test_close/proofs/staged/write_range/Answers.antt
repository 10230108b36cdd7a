use Rattle.std.proofs.Common.{◌∙◌}
use Rattle.test_close.proofs.Publishing.{alone-out, none-out}
use Rattle.test_close.proofs.staged.write_range.Goals as goal

pub settle-requires : goal.settle-requires
settle-requires c =
    alone-out _ _ _ c.fill.new.ext.range (c.in_ok-pen.ensures.makes.place.out ∙ c.requires.out) c.in_ok-range.ensures.reserves.out
    (c.fill.ensures.fills.range ∙ c.in_ok-range.ensures.new.range)

pub returns : goal.returns
returns c =
    c.return_pen.ensures.back.place.out
    ∙ none-out _ _ _ _ c.fill.new.ext.range (c.in_ok-pen.ensures.makes.place.out ∙ c.requires.out) c.in_ok-range.ensures.reserves.out
    (c.fill.ensures.fills.range ∙ c.in_ok-range.ensures.new.range) c.settle.ensures.settles.out
