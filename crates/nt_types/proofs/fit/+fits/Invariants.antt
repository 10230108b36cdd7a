use Rattle.std.proofs.Common.{◌≡◌, map, drop}
use Rattle.nt_types.specs.ShapeData.{kinds_of, parts_of}
use Rattle.nt_types.specs.Views.{shape_view, member_view}
use Rattle.nt_types.specs.TreeData.{trees_of}
use Rattle.nt_types.specs.TreeViews.{tree_view}
use Rattle.nt_types.specs.Fits.{fits, all_trees, fit_parts, fit_kinds}
use Rattle.nt_types.proofs.fit.+fits.Given as goal

abbrev pub invariant-all_fit-loop-tree : goal.invariant-all_fit-loop-tree
invariant-all_fit-loop-tree l =
    all_trees (fits (shape_view l.shape)) (trees_of (map tree_view l.trees))
    ≡ all_trees (fits (shape_view l.shape)) (trees_of (map tree_view (drop l.tree-index l.trees)))

abbrev pub invariant-members_fit-loop-i : goal.invariant-members_fit-loop-i
invariant-members_fit-loop-i l =
    fit_parts (parts_of (map member_view l.members)) (trees_of (map tree_view l.trees))
    ≡ fit_parts (parts_of (map member_view (drop l.i l.members))) (trees_of (map tree_view (drop l.i l.trees)))

abbrev pub invariant-each_fits-loop-i : goal.invariant-each_fits-loop-i
invariant-each_fits-loop-i l =
    fit_kinds (kinds_of (map shape_view l.shapes)) (trees_of (map tree_view l.trees))
    ≡ fit_kinds (kinds_of (map shape_view (drop l.i l.shapes))) (trees_of (map tree_view (drop l.i l.trees)))
