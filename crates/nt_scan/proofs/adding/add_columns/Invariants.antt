use Rattle.std.proofs.Common.{ℕ}
use Rattle.nt_scan.specs.Steps.{ArePartAdded}
use Rattle.nt_scan.proofs.adding.add_columns.Given as goal

abbrev pub invariant-loop-i : goal.invariant-loop-i
invariant-loop-i g l =
    ArePartAdded l.schema (λ (id : ℕ). g.C.Columns.elements l.cluster id) l.columns l.i l.initial.running l.running
