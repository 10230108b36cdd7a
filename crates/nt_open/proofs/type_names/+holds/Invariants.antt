use Rattle.std.proofs.Common.{◌≡◌, map, drop}
use Rattle.nt_types.specs.Views.{shape_view}
use Rattle.nt_types.specs.ShapeData.{kinds_of}
use Rattle.nt_grammar.specs.Types.{any_holds_record}
use Rattle.nt_open.proofs.type_names.+holds.Given as goal

abbrev pub invariant-any_holds_record-loop-shape : goal.invariant-any_holds_record-loop-shape
invariant-any_holds_record-loop-shape l =
    any_holds_record (kinds_of (map shape_view (drop l.shape-index l.shapes))) ≡ any_holds_record (kinds_of (map shape_view l.shapes))
