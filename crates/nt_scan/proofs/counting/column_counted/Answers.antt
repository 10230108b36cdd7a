use Rattle.std.proofs.Common.{◌∙◌, sym, arith}
use Rattle.nt_scan.proofs.Counts.{cluster-ok, cluster-err}
use Rattle.nt_scan.proofs.counting.column_counted.Goals as goal

pub returns-in-Err : goal.returns-in-Err
returns-in-Err c =
    sym (c.loop-k.invariant.1 ∙ cluster-err c.args.reader.now c.args.column c.loop-k.count c.in-Err.reached c.loop-k.k
    (omega (arith, c.loop-k-test.true, c.clusters-k-end.ensures)) (sym c.in-Err.ensures.count))

pub loop-k-preserved : goal.loop-k-preserved
loop-k-preserved c = (
  c.in-Ok.ensures.few,
  c.loop-k.invariant.1 ∙ cluster-ok c.args.reader.now c.args.column c.loop-k.count c.in-Ok.more c.loop-k.k
      (omega (arith, c.loop-k-test.true, c.clusters-k-end.ensures)) (sym c.in-Ok.ensures.count),
)
