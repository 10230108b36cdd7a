use Rattle.std.proofs.Common.{◌∙◌, sym, arith}
use Rattle.nt_scan.proofs.Counts.{pages-ok, pages-err}
use Rattle.nt_scan.proofs.counting.cluster_counted.Goals as goal

pub returns-in-Err-with_count-clause-count : goal.returns-in-Err-with_count-clause-count
returns-in-Err-with_count-clause-count c =
    sym (c.loop-i.invariant.1 ∙ pages-err c.args.reader.now c.args.k c.args.column c.loop-i.count c.in-Err-with_count.reached c.loop-i.i _
    (omega (arith, c.loop-i-test.true, c.pages_of-i-end.ensures)) (c.from.ensures ∙ c.count_of.ensures)
    (sym c.in-Err-with_count.ensures.count))

pub loop-i-preserved : goal.loop-i-preserved
loop-i-preserved c = (
  c.in-Ok-with_count.ensures.few,
  c.loop-i.invariant.1 ∙ pages-ok c.args.reader.now c.args.k c.args.column c.loop-i.count c.in-Ok-with_count.more c.loop-i.i _
      (omega (arith, c.loop-i-test.true, c.pages_of-i-end.ensures)) (c.from.ensures ∙ c.count_of.ensures)
      (sym c.in-Ok-with_count.ensures.count),
)
