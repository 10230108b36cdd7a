use Rattle.std.proofs.Common.{◌∙◌, sym, arith}
use Rattle.nt_open.proofs.ByField.{column_ids_next}
use Rattle.nt_open.proofs.grouped.column_ids.Goals as goal

pub loop-id-preserved : goal.loop-id-preserved
loop-id-preserved c = record {
  count = omega (arith, c.in_ok-put_column_id.ensures.count, c.loop-id.invariant.count);
  each = λ i few. c.in_ok-put_column_id.ensures.items i (omega (arith, few, c.loop-id.invariant.count))
      ∙ rw (c.loop-id.invariant.each i few) (sym (column_ids_next c.args.columns.now c.loop-id.id i (omega (arith, c.loop-id-test.true))));
}
