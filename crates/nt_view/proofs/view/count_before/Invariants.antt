-- the pages so far are counted
use Rattle.std.proofs.Common.{◌≡◌, take}
use Rattle.nt_view.specs.Views.{counted_of}
use Rattle.nt_view.proofs.view.count_before.Given as goal

abbrev pub invariant-loop-i : goal.invariant-loop-i
invariant-loop-i l = l.count ≡ counted_of l.column (take l.i l.pages)
