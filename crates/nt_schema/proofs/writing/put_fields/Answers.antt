use Rattle.std.proofs.Common.{arith}
use Rattle.std.proofs.lemmas.Grind.{common_steps}
use Rattle.nt_schema.proofs.Appended.{fields-next}
use Rattle.nt_schema.proofs.writing.put_fields.Goals as goal

pub loop-row-preserved : goal.loop-row-preserved
loop-row-preserved c = record {
  short = grind (arith, common_steps, c.loop-row.invariant.short);
  written =
      fields-next c.args.rows.now c.loop-row.row-index c.row-item.result c.loop-row.out c.put_field.new.out c.args.out.now
      c.loop-row-test.true c.row-item.is c.in_ok-put_field.ensures c.loop-row.invariant.written;
}
