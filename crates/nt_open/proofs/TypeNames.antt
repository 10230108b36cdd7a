-- The names of types that have inner types, and lists in three pieces.
use Rattle.std.proofs.Common.{List, true, ◌≡◌, ◌∙◌, ap, sym, codes, ◌++◌, refl, append_assoc}
use Rattle.nt_types.specs.ShapeData.{ShapeData, MemberData, kinds_of}
use Rattle.nt_types.specs.Views.{shape_view, shapes_view, shape_step, member_step, members_step, shapes_step}
use Rattle.nt_types.specs.declared.shape.Shapes.{Shapes}
use Rattle.nt_types.specs.declared.shape.Shape.TheVariants.{Tuple, rolls-Tuple}
use Rattle.nt_types.specs.declared.shape.Shape.{Shape}
use Rattle.nt_types.specs.declared.shape.Shape.TheFolds.{fold-roll-Shape}
use Rattle.nt_types.specs.declared.shape.Shape.TheOpen.{Shape-F}
use Rattle.nt_grammar.specs.Types.{cpp_name, cpp_names, template}

pub cpp_name-tuple : (s : Shapes) → cpp_name (shape_view (Tuple s))
    ≡ template (codes "std::tuple<") (cpp_names true (kinds_of (shapes_view s)))
cpp_name-tuple s =
    ap (λ (x : Shape). cpp_name (shape_view x)) (sym (rolls-Tuple s))
    ∙ ap cpp_name (fold-roll-Shape ShapeData MemberData (List MemberData) (List ShapeData) shape_step member_step members_step
    shapes_step (Shape-F.Tuple s))

-- three pieces, one behind the other
pub three : {A : Type 0} (a p q r b c d : List A) → b ≡ a ++ p → c ≡ b ++ q → d ≡ c ++ r → d ≡ a ++ (p ++ (q ++ r))
three a p q r b c d e f g = g ∙ rw (f, e, append_assoc a p q, append_assoc a (p ++ q) r, append_assoc p q r) refl
