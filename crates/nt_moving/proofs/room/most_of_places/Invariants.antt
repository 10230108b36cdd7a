use Rattle.std.proofs.Common.{◌≡◌, ℕ, List, max, drop}
use Rattle.nt_types.specs.TreeData.{TreesData}
use Rattle.nt_trees.specs.Views.{plans_in}
use Rattle.nt_shred.specs.Most.{most_of_any}
use Rattle.nt_moving.specs.Moved.{chosen_at}
use Rattle.nt_moving.proofs.room.most_of_places.Given as goal

abbrev pub invariant-loop-place : goal.invariant-loop-place
invariant-loop-place g l =
    let of : List ℕ → TreesData = λ places. chosen_at (plans_in l.plans) (g.C.Columns.elements l.columns) places l.i in
    max l.highest (most_of_any (of (drop l.place-index l.places))) ≡ most_of_any (of l.places)
