-- What shapes stand for.
use Rattle.std.specs.Prelude.{List}
use Rattle.nt_types.specs.ShapeData.{ShapeData, MemberData, bool, char, byte, int, text, list, maybe, fields, tuple, choice, kinds_of}
use Rattle.nt_types.specs.ShapeData.{parts_of}
use Rattle.nt_types.specs.declared.shape.Shape.{Shape, fold-Shape}
use Rattle.nt_types.specs.declared.shape.Shape.TheOpen.{Shape-F, Shapes-F, Member-F, Members-F}
use Rattle.nt_types.specs.declared.shape.Shapes.{Shapes, fold-Shapes}
use Rattle.nt_types.specs.declared.shape.Member.{Member, fold-Member}
use Rattle.nt_types.specs.declared.shape.Members.{Members, fold-Members}

-- one level, with what lies inside already seen
abbrev pub shape_step : Shape-F ShapeData MemberData (List MemberData) (List ShapeData) → ShapeData
shape_step Shape-F.Bool = bool
shape_step Shape-F.Char = char
shape_step Shape-F.Byte = byte
shape_step (Shape-F.Int bits signed) = int bits signed
shape_step Shape-F.Text = text
shape_step (Shape-F.List of) = list of.value
shape_step (Shape-F.Maybe of) = maybe of.value
shape_step (Shape-F.Rec members) = fields (parts_of members)
shape_step (Shape-F.Tuple shapes) = tuple (kinds_of shapes)
shape_step (Shape-F.Choice shapes) = choice (kinds_of shapes)

-- several at one level
abbrev pub shapes_step : Shapes-F ShapeData MemberData (List MemberData) (List ShapeData) → List ShapeData
shapes_step s = s.list.items

-- a member, whose inside is already seen
abbrev pub member_step : Member-F ShapeData MemberData (List MemberData) (List ShapeData) → MemberData
member_step m = record { name = m.name; of = m.of }

-- several members
abbrev pub members_step : Members-F ShapeData MemberData (List MemberData) (List ShapeData) → List MemberData
members_step m = m.list.items

-- the kind of values that a shape describes
abbrev pub shape_view : Shape → ShapeData
shape_view = fold-Shape ShapeData MemberData (List MemberData) (List ShapeData) shape_step member_step members_step shapes_step

-- the kinds of several shapes
abbrev pub shapes_view : Shapes → List ShapeData
shapes_view = fold-Shapes ShapeData MemberData (List MemberData) (List ShapeData) shape_step member_step members_step shapes_step

-- the name and the kind of a member
abbrev pub member_view : Member → MemberData
member_view = fold-Member ShapeData MemberData (List MemberData) (List ShapeData) shape_step member_step members_step shapes_step

-- the names and kinds of several members
abbrev pub members_view : Members → List MemberData
members_view = fold-Members ShapeData MemberData (List MemberData) (List ShapeData) shape_step member_step members_step shapes_step
