use Rattle.std.proofs.Common.{◌∙◌}
use Rattle.std.proofs.lemmas.Result.{err_from_is_err_and}
use Rattle.nt_contexts.proofs.Publishing.{chunks-published, chunks-unpublished}
use Rattle.nt_contexts.proofs.running.publish_written.Goals as goal

pub returns-in_err-publish : goal.returns-in_err-publish
returns-in_err-publish g c entries wrote =
    let p = err_from_is_err_and c.from_residual.result c.from_residual.ensures.1 in
    rw (p.1, p.2) (chunks-unpublished g.D.Disk.state entries c.args.fill.now c.publish.new.self wrote c.in_err-publish.ensures.now
    c.in_err-publish.field-0.0 c.in_err-publish.ensures.publishes)

pub returns-in_ok-publish : goal.returns-in_ok-publish
returns-in_ok-publish g c entries wrote =
    chunks-published g.D.Disk.state entries c.args.fill.now c.publish.new.self wrote c.in_ok-publish.ensures.now c.in_ok-publish.field-0
    (c.requires.staged ∙ c.if-shared.true) c.in_ok-publish.ensures.publishes
