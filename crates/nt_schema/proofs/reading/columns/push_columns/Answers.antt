use Rattle.std.proofs.lemmas.Result.{err_from_is_err_and}
use Rattle.nt_schema.proofs.RowSteps.{columns-fail}
use Rattle.nt_schema.proofs.reading.columns.push_columns.Goals as goal

pub returns-in_err-row-clause-left : goal.returns-in_err-row-clause-left
returns-in_err-row-clause-left c =
    let p = err_from_is_err_and c.from_residual.result c.from_residual.ensures.1 in
    rw (p.1, p.2)
    (columns-fail c.args.fields c.args.count c.loop.counter c.loop.rows.items c.loop.cur _ _ c.loop-test.true c.in_err-row.ensures
    c.loop.invariant.read)
