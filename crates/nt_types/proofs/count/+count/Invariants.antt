use Rattle.std.proofs.Common.{◌≡◌, ◌≤◌, ◌+◌, min, map, drop}
use Rattle.nt_types.specs.Views.{shape_view, member_view}
use Rattle.nt_types.specs.ShapeData.{kinds_of, parts_of}
use Rattle.nt_types.specs.Schema.{kinds_count, parts_count}
use Rattle.nt_types.proofs.count.+count.Given as goal

abbrev pub invariant-count_shapes-loop-shape : goal.invariant-count_shapes-loop-shape
invariant-count_shapes-loop-shape l = record {
  bound : l.now ≤ 4097;
  rest : min 4097 (l.now + kinds_count (kinds_of (map shape_view (drop l.shape-index l.shapes)))) ≡ min 4097
      (l.before + kinds_count (kinds_of (map shape_view l.shapes)));
}

abbrev pub invariant-count_members-loop-member : goal.invariant-count_members-loop-member
invariant-count_members-loop-member l = record {
  bound : l.now ≤ 4097;
  rest : min 4097 (l.now + parts_count (parts_of (map member_view (drop l.member-index l.members)))) ≡ min 4097
      (l.before + parts_count (parts_of (map member_view l.members)));
}
