use Rattle.std.proofs.Common.{◌∙◌, ap, length, Err, arith}
use Rattle.std.proofs.lemmas.Grind.{common_steps}
use Rattle.std.proofs.lemmas.Result.{err_from_is_err_and}
use Rattle.nt_tfile.specs.declared.failure.ReadFailure.{ReadFailure}
use Rattle.nt_generate.proofs.AddedClusters.{unattached, unread, all_back, counted_empty}
use Rattle.nt_generate.proofs.reading.tell_totals.Goals as goal

pub returns-in_err-reader-clause-read : goal.returns-in_err-reader-clause-read
returns-in_err-reader-clause-read g c b is =
    let p = err_from_is_err_and c.from_residual.result c.from_residual.ensures.1 in
    unattached c.from_residual.result _ c.args.contexts c.args.order.now b _ (p.1 ∙ ap (λ (e : ReadFailure). Err e) p.2)
    (c.in_err-reader.ensures.read b is)

pub returns-in_err-add_clusters-in-Ok-clause-read : goal.returns-in_err-add_clusters-in-Ok-clause-read
returns-in_err-add_clusters-in-Ok-clause-read g c b is =
    let f = c.from_residual-in_err-add_clusters-in-Ok in
    let p = err_from_is_err_and f.result f.ensures.1 in
    unread f.result _ c.add_clusters.new.totals c.args.contexts (length c.deref_mut.result.now) c.args.order.now b c.in_ok-reader.reader _
    (p.1 ∙ ap (λ (e : ReadFailure). Err e) p.2) (c.in_ok-reader.ensures.read b is)
    (counted_empty c.args.contexts c.deref_mut.result.now (c.deref_mut.ensures.value ∙ c.in-Ok.ensures))
    (c.in_err-add_clusters-in-Ok.ensures.read b (c.in_ok-reader.ensures.file.same ∙ is))

pub returns-in-Ok-clause-read : goal.returns-in-Ok-clause-read
returns-in-Ok-clause-read g c b is =
    all_back c.in-Ok.totals.len c.args.contexts c.deref_mut.result.now c.in-Ok.totals.items c.add_clusters.new.totals c.args.order.now b
    c.in_ok-reader.reader (c.in_ok-reader.ensures.read b is) c.deref_mut.ensures.value c.in-Ok.ensures
    (grind (arith, common_steps, c.deref_mut.ensures.len))
    (c.in_ok-add_clusters-in-Ok.ensures.read b (c.in_ok-reader.ensures.file.same ∙ is))
