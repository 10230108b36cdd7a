use Rattle.std.proofs.lemmas.Result.{err_from_is_err_and}
use Rattle.nt_meta.proofs.SummarySteps.{summaries-fail}
use Rattle.nt_meta.proofs.reading_summaries.push_summaries.Goals as goal

pub returns-in_err-cluster : goal.returns-in_err-cluster
returns-in_err-cluster c =
    let p = err_from_is_err_and c.from_residual.result c.from_residual.ensures.1 in
    rw (p.1, p.2) (summaries-fail c.args.number c.args.count c.loop-i.i c.loop-i.so_far c.loop-i.clusters.items c.loop-i.cur _ _
    c.loop-i-test.true c.in_err-cluster.ensures.told c.loop-i.invariant.read)
