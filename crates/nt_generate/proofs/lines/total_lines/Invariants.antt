use Rattle.std.proofs.Common.{◌≡◌, ◌++◌, drop}
use Rattle.nt_generate.specs.Lines.{lines_from}
use Rattle.nt_generate.proofs.lines.total_lines.Given as goal

abbrev pub invariant-loop-context : goal.invariant-loop-context
invariant-loop-context l = lines_from 0 l.totals ≡ l.text.items ++ lines_from l.context (drop l.context l.totals)
