-- What open constructs stand for.
use Rattle.std.specs.Prelude.{List, [], ◌∷◌, map}
use Rattle.nt_types.specs.Views.{shape_view, member_view}
use Rattle.nt_types.specs.Reading as reading
use Rattle.nt_types.specs.Reading.{OpenData, in_list, in_maybe, at_name, in_member, in_tuple, in_choice, goes, ends}
use Rattle.nt_types.specs.declared.construct.Open.{Open}
use Rattle.nt_types.specs.declared.construct.Open.TheVariants as opens
use Rattle.nt_types.specs.declared.construct.Placed.{Placed}
use Rattle.nt_types.specs.declared.construct.Placed.TheVariants as places

-- a construct that is open
abbrev pub open_view : Open → OpenData
open_view opens.List = in_list
open_view (opens.Maybe within) = in_maybe within
open_view (opens.Name members) = at_name (map member_view members.items)
open_view (opens.Member members name) = in_member (map member_view members.items) name
open_view (opens.Tuple shapes) = in_tuple (map shape_view shapes.items)
open_view (opens.Choice within shapes) = in_choice within (map shape_view shapes.items)

-- the last that was opened comes first
abbrev pub stack_onto : List OpenData → List Open → List OpenData
stack_onto below [] = below
stack_onto below (o ∷ os) = stack_onto (open_view o ∷ below) os

-- the constructs that are open, the innermost first
abbrev pub stack_view : List Open → List OpenData
stack_view os = stack_onto [] os

-- a construct that goes on, or a kind that ended
abbrev pub placed_view : Placed → reading.PlacedData
placed_view (places.Goes o) = goes (open_view o)
placed_view (places.Ends s) = ends (shape_view s)
