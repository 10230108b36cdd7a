-- What is seen of a member.
use Rattle.std.proofs.Common.{List, ◌≡◌, ap}
use Rattle.nt_types.specs.ShapeData.{ShapeData, MemberData}
use Rattle.nt_types.specs.Views.{member_view, shape_view, shape_step, member_step, members_step, shapes_step}
use Rattle.nt_types.specs.declared.shape.Member.{Member}
use Rattle.nt_types.specs.declared.shape.Shape.TheFolds.{fold_out-Member}

pub member_view-name : (m : Member) → (member_view m).name ≡ m.name
member_view-name m =
    ap (λ (p : MemberData). p.name) (fold_out-Member ShapeData MemberData (List MemberData) (List ShapeData) shape_step member_step
    members_step shapes_step m)

pub member_view-of : (m : Member) → (member_view m).of ≡ shape_view m.of
member_view-of m =
    ap (λ (p : MemberData). p.of) (fold_out-Member ShapeData MemberData (List MemberData) (List ShapeData) shape_step member_step
    members_step shapes_step m)
