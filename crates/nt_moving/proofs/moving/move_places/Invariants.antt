use Rattle.std.proofs.Common.{ℕ, List, drop}
use Rattle.nt_types.specs.TreeData.{TreesData}
use Rattle.nt_trees.specs.Views.{plans_in}
use Rattle.nt_shred.proofs.Left.{LeftEach}
use Rattle.nt_moving.specs.Moved.{chosen_at}
use Rattle.nt_moving.proofs.moving.move_places.Given as goal

abbrev pub invariant-loop-k : goal.invariant-loop-k
invariant-loop-k g l =
    let of : List ℕ → TreesData = λ places. chosen_at (plans_in l.from) (g.C.Columns.elements l.columns) places l.i in
    LeftEach (plans_in l.to) (of l.places) (plans_in (drop l.k l.to)) (of (drop l.k l.places)) l.fn.out l.out
