use Rattle.std.proofs.Common.{take}
use Rattle.nt_lines.specs.Lent.{AreLentAs}
use Rattle.nt_lines.proofs.lent.lent_plans.Given as goal

-- the plans so far
abbrev pub invariant-loop-k : goal.invariant-loop-k
invariant-loop-k g l = AreLentAs (take l.k l.plans) (g.C.Columns.elements l.columns) l.lent.items
