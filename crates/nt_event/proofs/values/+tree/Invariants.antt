use Rattle.std.proofs.Common.{◌≡◌, map, drop, option_map}
use Rattle.serde_json.specs.View.{items_view}
use Rattle.nt_event.specs.Line.{all_read, tree_read}
use Rattle.nt_event.specs.Line as lines
use Rattle.nt_types.specs.Views.{shape_view, member_view}
use Rattle.nt_types.specs.ShapeData.{kinds_of, parts_of}
use Rattle.nt_types.specs.TreeViews.{tree_view}
use Rattle.nt_event.specs.Entry.{trees_then}
use Rattle.nt_event.proofs.values.+tree.Given as goal

abbrev pub invariant-list-loop-value : goal.invariant-list-loop-value
invariant-list-loop-value l = record {
  left : all_read (tree_read (shape_view l.of)) (items_view l.values) ≡ option_map (trees_then (map tree_view l.trees.items))
      (all_read (tree_read (shape_view l.of)) (items_view (drop l.value-index l.values)));
}

abbrev pub invariant-each-loop-i : goal.invariant-each-loop-i
invariant-each-loop-i l = record {
  left : lines.kinds_read (kinds_of (map shape_view l.shapes)) (items_view l.values) ≡ option_map
      (trees_then (map tree_view l.trees.items))
      (lines.kinds_read (kinds_of (map shape_view (drop l.i l.shapes))) (items_view (drop l.i l.values)));
}

abbrev pub invariant-each_member-loop-i : goal.invariant-each_member-loop-i
invariant-each_member-loop-i l = record {
  left : lines.parts_read (parts_of (map member_view l.members)) (items_view l.values) ≡ option_map
      (trees_then (map tree_view l.trees.items))
      (lines.parts_read (parts_of (map member_view (drop l.i l.members))) (items_view (drop l.i l.values)));
}
