use Rattle.std.proofs.Common.{arith, rules}
use Rattle.nt_scan.proofs.Totalled.{totalled-more, totalled-all}
use Rattle.nt_scan.proofs.totals.totals_of.Goals as goal

pub loop-i-preserved : goal.loop-i-preserved
loop-i-preserved c = (
  omega (arith, c.loop-i-test.true),
  totalled-more c.args.schema.now c.args.columns.now c.args.running.now c.loop-i.i c.loop-i.items.items _ c.total.result _ _
      c.loop-i-test.true c.requires (search rules) (rw c.column_kind.ensures at c.total.ensures) c.loop-i.invariant.1,
)

pub returns : goal.returns
returns c =
    totalled-all c.args.schema.now c.args.columns.now c.args.running.now c.loop-i.i c.loop-i.items.items c.loop-i-test.false
    c.loop-i.invariant.0 c.loop-i.invariant.1
