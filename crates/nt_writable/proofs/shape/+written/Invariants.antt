use Rattle.std.proofs.Common.{◌≡◌, map, take}
use Rattle.nt_types.specs.Views.{shape_view, member_view}
use Rattle.nt_writable.proofs.Loops.{written_shape, written_member, shape_of_member}
use Rattle.nt_writable.proofs.shape.+written.Given as goal

abbrev pub invariant-all_shapes-loop-shape : goal.invariant-all_shapes-loop-shape
invariant-all_shapes-loop-shape l = map shape_view l.list.items ≡ map written_shape (take l.shape-index l.shapes)

abbrev pub invariant-all_members-loop-member : goal.invariant-all_members-loop-member
invariant-all_members-loop-member l = map member_view l.list.items ≡ map written_member (take l.member-index l.members)

abbrev pub invariant-shapes_of_members-loop-member : goal.invariant-shapes_of_members-loop-member
invariant-shapes_of_members-loop-member l = map shape_view l.list.items ≡ map shape_of_member (take l.member-index l.members)
