-- The frame of the last mark becomes bytes of the one that it is in.
use Rattle.std.proofs.Common.{◌∙◌, ap}
use Rattle.nt_frame.specs.Writing.{frame_finished}
use Rattle.nt_frame.proofs.Marks.{finish-step}
use Rattle.nt_frame.proofs.writing.FrameOut.finish.Goals as goal

pub invariant_of-self : goal.invariant_of-self
invariant_of-self c =
    (finish-step c.self.inside.marks.items c.pop.new.self.items c.in-Some.mark c.self.inside.out.items c.put_head.new.out.items
    c.in-Some.ensures.items c.put_head.ensures c.self.invariant).0

pub returns-in-Some : goal.returns-in-Some
returns-in-Some c =
    (finish-step c.self.inside.marks.items c.pop.new.self.items c.in-Some.mark c.self.inside.out.items c.put_head.new.out.items
    c.in-Some.ensures.items c.put_head.ensures c.self.invariant).1
    ∙ ap frame_finished c.self.view_is
