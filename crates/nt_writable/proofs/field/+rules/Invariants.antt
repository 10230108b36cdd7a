use Rattle.std.proofs.Common.{◌≡◌, map, drop}
use Rattle.nt_types.specs.ShapeData.{kinds_of, parts_of}
use Rattle.nt_types.specs.Views.{shape_view, member_view}
use Rattle.nt_writable.specs.Fields.{all_types, all_members}
use Rattle.nt_writable.proofs.field.+rules.Given as goal

abbrev pub invariant-are_types-loop-shape : goal.invariant-are_types-loop-shape
invariant-are_types-loop-shape l =
    all_types l.within (kinds_of (map shape_view (drop l.shape-index l.shapes))) ≡ all_types l.within (kinds_of (map shape_view l.shapes))

abbrev pub invariant-are_members-loop-member : goal.invariant-are_members-loop-member
invariant-are_members-loop-member l =
    all_members (parts_of (map member_view (drop l.member-index l.members))) ≡ all_members (parts_of (map member_view l.members))
