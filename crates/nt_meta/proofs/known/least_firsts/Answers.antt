use Rattle.std.proofs.Common.{refl, arith}
use Rattle.nt_pagelists.specs.Columns.{unknown_column}
use Rattle.nt_meta.proofs.FirstSteps.{firsts-next, firsts-start, resized}
use Rattle.nt_meta.proofs.known.least_firsts.Goals as goal

pub loop-done-init : goal.loop-done-init
loop-done-init c = record {
  count = refl;
  len = omega (arith, c.in_ok-resize.ensures.len);
  each = firsts-start c.args.columns.now c.resize.new.self.items
      (resized _ _ _ _ c.new-firsts.ensures.items c.new-firsts.ensures.len c.in_ok-resize.ensures.items);
}

pub loop-done-preserved : goal.loop-done-preserved
loop-done-preserved c = record {
  count = refl;
  len = omega arith;
  each = firsts-next c.args.columns.now c.loop-done.firsts.items c.loop-done.done _ _ c.with_column-least.result unknown_column
      c.loop-done.invariant.each c.loop-done-test.true refl (omega arith) c.index.ensures c.with_column-least.ensures;
}
