use Rattle.std.proofs.Common.{refl}
use Rattle.std.proofs.lemmas.Result.{err_from_is_err_and}
use Rattle.nt_meta.proofs.ColumnSteps.{columns-fail}
use Rattle.nt_meta.proofs.reading_columns.push_columns.Goals as goal

pub returns-in_err-list-clause-told : goal.returns-in_err-list-clause-told
returns-in_err-list-clause-told c =
    let p = err_from_is_err_and c.from_residual.result c.from_residual.ensures.1 in
    rw (p.1, p.2) (columns-fail c.args.cluster.now c.args.columns.now c.args.elements.now c.args.count c.loop-id.id _ _
    c.loop-id.lists.items c.loop-id.cur _ _ c.loop-id-test.true c.loop-id.invariant.here c.column-column.ensures refl
    c.in_err-list.ensures c.loop-id.invariant.read)
