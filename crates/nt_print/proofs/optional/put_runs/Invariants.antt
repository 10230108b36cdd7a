use Rattle.std.proofs.Common.{◌++◌, ◌∷◌, [], ◌-◌, length}
use Rattle.nt_print.proofs.Optionals.{IsPrinted}
use Rattle.nt_print.proofs.optional.put_runs.Given as goal

abbrev pub invariant-loop-at : goal.invariant-loop-at
invariant-loop-at g l =
    IsPrinted (g.C.Columns.elements l.columns) l.list.of.column l.list.of.bits l.list.of.signed l.list.begin l.list.ends.now
    (l.fn.out.items ++ l.mark ∷ []) l.out.items l.later l.begin l.at

abbrev pub decreases-loop-at : goal.decreases-loop-at
decreases-loop-at g l = length l.list.ends.now - l.at
