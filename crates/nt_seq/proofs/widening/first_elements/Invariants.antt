use Rattle.std.proofs.Common.{◌≡◌, ◌++◌}
use Rattle.std.specs.Prelude.{drop}
use Rattle.nt_seq.specs.Widening.{first_elements}
use Rattle.nt_seq.proofs.widening.first_elements.Given as goal

-- with the columns that are left they are all
abbrev pub invariant-loop-k : goal.invariant-loop-k
invariant-loop-k l =
    l.firsts.items ++ first_elements (drop l.k l.schema.columns) ≡ first_elements (drop l.from l.schema.columns)
