use Rattle.std.proofs.Common.{◌≡◌, map}
use Rattle.nt_types.specs.ShapeData.{MemberData}
use Rattle.nt_types.specs.Views.{shape_view, member_view}
use Rattle.nt_open.proofs.fields.without_names.Given as goal

abbrev pub invariant-loop-part : goal.invariant-loop-part
invariant-loop-part l = map shape_view l.shapes.items ≡ map (λ (part : MemberData). part.of) (map member_view l.yielded)
