use Rattle.std.proofs.lemmas.Result.{err_from_is_err_and}
use Rattle.nt_meta.proofs.GroupSteps.{groups-fail}
use Rattle.nt_meta.proofs.reading_groups.push_groups.Goals as goal

pub returns-in_err-group : goal.returns-in_err-group
returns-in_err-group c =
    let p = err_from_is_err_and c.from_residual.result c.from_residual.ensures.1 in
    rw (p.1, p.2) (groups-fail c.args.count c.loop.counter c.loop.entries c.loop.clusters c.loop.groups.items c.loop.cur _ _
    c.loop-test.true c.in_err-group.ensures.told c.loop.invariant.read)
