use Rattle.std.proofs.Common.{◌≡◌, drop}
use Rattle.nt_pagelists.specs.Columns.{judged_unlisted}
use Rattle.nt_meta.proofs.judging.judge_each.Given as goal

-- what is left shows what all show
abbrev pub invariant-loop-id : goal.invariant-loop-id
invariant-loop-id l = record {
  read : judged_unlisted l.cluster l.frame l.id (drop l.id l.columns) ≡ judged_unlisted l.cluster l.frame l.from (drop l.from l.columns);
}
