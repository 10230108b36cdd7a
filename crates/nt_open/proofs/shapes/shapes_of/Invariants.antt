use Rattle.std.proofs.Common.{◌≡◌, ◌++◌, map, drop}
use Rattle.std.specs.Prelude.{option_map}
use Rattle.nt_types.specs.Views.{shape_view}
use Rattle.nt_grammar.specs.Open.{open_shapes}
use Rattle.nt_open.proofs.shapes.shapes_of.Given as goal

abbrev pub invariant-loop-id : goal.invariant-loop-id
invariant-loop-id l =
    map (option_map shape_view) l.shapes.items ++ open_shapes l.rows.fields.now l.rows.columns.now l.id (drop l.id l.rows.fields.now)
    ≡ open_shapes l.rows.fields.now l.rows.columns.now 0 l.rows.fields.now
