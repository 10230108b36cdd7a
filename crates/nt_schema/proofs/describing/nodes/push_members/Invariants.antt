use Rattle.std.proofs.Common.{◌≡◌, ◌++◌, map, drop}
use Rattle.nt_types.specs.Views.{member_view}
use Rattle.nt_types.specs.ShapeData.{parts_of}
use Rattle.nt_grammar.specs.Added.{with_mark}
use Rattle.nt_grammar.specs.Rows.{members_in}
use Rattle.nt_schema.specs.Describing.{mark_view}
use Rattle.nt_schema.proofs.describing.nodes.push_members.Given as goal

abbrev pub invariant-loop-member : goal.invariant-loop-member
invariant-loop-member l =
    map mark_view l.nodes.items ++ with_mark l.principal (members_in l.parent (parts_of (map member_view (drop l.member-index l.members))))
    ≡ map mark_view l.initial.nodes.items ++ with_mark l.principal (members_in l.parent (parts_of (map member_view l.members)))
