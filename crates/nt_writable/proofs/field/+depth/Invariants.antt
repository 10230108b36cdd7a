use Rattle.std.proofs.Common.{◌≡◌, map, drop}
use Rattle.std.specs.Prelude.{nat_le}
use Rattle.nt_types.specs.ShapeData.{kinds_of, parts_of}
use Rattle.nt_types.specs.Spelling.{deepest_kind, deepest_part}
use Rattle.nt_types.specs.Views.{shape_view, member_view}
use Rattle.nt_writable.proofs.field.+depth.Given as goal

abbrev pub invariant-shapes_nest_within-loop-shape : goal.invariant-shapes_nest_within-loop-shape
invariant-shapes_nest_within-loop-shape l =
    nat_le (deepest_kind (kinds_of (map shape_view (drop l.shape-index l.shapes)))) l.most
    ≡ nat_le (deepest_kind (kinds_of (map shape_view l.shapes))) l.most

abbrev pub invariant-members_nest_within-loop-member : goal.invariant-members_nest_within-loop-member
invariant-members_nest_within-loop-member l =
    nat_le (deepest_part (parts_of (map member_view (drop l.member-index l.members)))) l.most
    ≡ nat_le (deepest_part (parts_of (map member_view l.members))) l.most
