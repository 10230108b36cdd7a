use Rattle.nt_schema.proofs.Appended.{columns-next}
use Rattle.nt_schema.proofs.writing.put_columns.Goals as goal

pub loop-row-preserved : goal.loop-row-preserved
loop-row-preserved c =
    columns-next c.args.rows.now c.loop-row.row-index _ c.loop-row.out c.put_column.new.out c.args.out.now c.loop-row-test.true
    c.in_ok-put_column.ensures c.loop-row.invariant
