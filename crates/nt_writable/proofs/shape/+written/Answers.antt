use Rattle.nt_writable.proofs.Loops.{all-shapes, all-members, all-kinds}
use Rattle.nt_writable.proofs.shape.+written.Goals as goal

pub all_shapes-returns : goal.all_shapes-returns
all_shapes-returns t c =
    all-shapes c.args.shapes.now c.loop-shape.list.items c.loop-shape.shape-index c.loop-shape-test.false c.loop-shape.invariant

pub all_members-returns : goal.all_members-returns
all_members-returns t c =
    all-members c.args.members.now c.loop-member.list.items c.loop-member.member-index c.loop-member-test.false c.loop-member.invariant

pub shapes_of_members-returns : goal.shapes_of_members-returns
shapes_of_members-returns t c =
    all-kinds c.args.members.now c.loop-member.list.items c.loop-member.member-index c.loop-member-test.false c.loop-member.invariant
