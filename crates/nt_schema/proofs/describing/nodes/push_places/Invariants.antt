use Rattle.std.proofs.Common.{◌≡◌, ◌++◌, map, drop}
use Rattle.nt_types.specs.Views.{shape_view}
use Rattle.nt_types.specs.ShapeData.{kinds_of}
use Rattle.nt_grammar.specs.Added.{with_mark}
use Rattle.nt_grammar.specs.Rows.{places_in}
use Rattle.nt_schema.specs.Describing.{mark_view}
use Rattle.nt_schema.proofs.describing.nodes.push_places.Given as goal

abbrev pub invariant-loop-place : goal.invariant-loop-place
invariant-loop-place l =
    map mark_view l.nodes.items ++ with_mark l.principal (places_in l.parent l.place (kinds_of (map shape_view (drop l.place l.shapes))))
    ≡ map mark_view l.initial.nodes.items ++ with_mark l.principal (places_in l.parent 0 (kinds_of (map shape_view l.shapes)))
