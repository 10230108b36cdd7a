use Rattle.std.proofs.Common.{◌≡◌, ◌++◌, true, map, drop}
use Rattle.nt_types.specs.Views.{shape_view}
use Rattle.nt_types.specs.ShapeData.{kinds_of}
use Rattle.nt_grammar.specs.Types.{cpp_names}
use Rattle.nt_open.proofs.type_names.+name.Given as goal

abbrev pub invariant-put_names-loop-shape : goal.invariant-put_names-loop-shape
invariant-put_names-loop-shape l =
    l.out.items ++ cpp_names l.first (kinds_of (map shape_view (drop l.shape-index l.shapes)))
    ≡ l.initial.out.items ++ cpp_names true (kinds_of (map shape_view l.shapes))
