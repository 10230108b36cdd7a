-- Fields that are listed, as the code keeps them.
use Rattle.std.specs.Prelude.{ℕ, List}
use Rattle.nt_types.specs.Views.{shape_view}
use Rattle.nt_schema.specs.declared.describing.node.Node.{Node}
use Rattle.nt_schema.specs.declared.describing.node.Label.{Label}
use Rattle.nt_schema.specs.declared.describing.node.Label.TheVariants.{Given, Place}
use Rattle.nt_grammar.specs.Rows.{NodeData, place_name}
use Rattle.nt_grammar.specs.Added.{MarkedData}

-- the name of a field
abbrev pub label_view : Label → List ℕ
label_view (Given name) = name.now
label_view (Place i) = place_name i

-- a field that is listed
abbrev pub node_view : Node → NodeData
node_view n = record { parent = n.parent; name = label_view n.label; of = shape_view n.of.now }

-- with its mark
abbrev pub mark_view : Node → MarkedData
mark_view n = record { node = node_view n; principal = n.principal }
