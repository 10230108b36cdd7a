use Rattle.std.proofs.Common.{◌∙◌, ap, refl, length, Err, arith}
use Rattle.std.proofs.lemmas.Result.{err_from_is_err_and}
use Rattle.nt_reader.specs.Columns.{ClusterData, given_entries}
use Rattle.nt_tfile.specs.declared.failure.ReadFailure.{ReadFailure}
use Rattle.nt_generate.proofs.AddedClusters.{begins, goes_on, ends_refused, ends_whole}
use Rattle.nt_generate.proofs.reading.add_clusters.Goals as goal

pub loop-k-init : goal.loop-k-init
loop-k-init g c = record {
  told = λ b is. begins b c.args.reader.now c.args.order.now (length c.args.totals.now) c.args.totals.now c.requires;
  bytes = refl;
  later = omega arith;
}

pub returns-in_err-cluster-clause-read : goal.returns-in_err-cluster-clause-read
returns-in_err-cluster-clause-read g c b is =
    let p = err_from_is_err_and c.from_residual.result c.from_residual.ensures.1 in
    ends_refused b c.args.reader.now c.args.order.now (length c.args.totals.now) c.loop-k.k c.loop-k.totals
    (c.loop-k.invariant.told b is) (λ (d : ClusterData). given_entries d) c.from_residual.result (λ _. c.loop-k.totals) _
    (p.1 ∙ ap (λ (e : ReadFailure). Err e) p.2) (omega (arith, c.loop-k-test.true, c.clusters-k-end.ensures))
    (c.in_err-cluster.ensures.read b (c.loop-k.invariant.bytes ∙ is))

pub loop-k-preserved : goal.loop-k-preserved
loop-k-preserved g c = record {
  told = λ b is.
      goes_on b c.args.reader.now c.args.order.now (length c.args.totals.now) c.loop-k.k c.loop-k.totals (c.loop-k.invariant.told b is)
      (given_entries c.in_ok-cluster.cluster) _ (omega (arith, c.loop-k-test.true, c.clusters-k-end.ensures))
      (c.in_ok-cluster.ensures.read b (c.loop-k.invariant.bytes ∙ is)) c.in-Ok.ensures.ok;
  bytes = c.in_ok-cluster.ensures.file.same ∙ c.loop-k.invariant.bytes;
  later = omega (arith, c.loop-k.invariant.later, c.in_ok-cluster.ensures.file.later);
}

pub returns-clause-read : goal.returns-clause-read
returns-clause-read g c b is =
    ends_whole b c.args.reader.now c.args.order.now (length c.args.totals.now) c.loop-k.k c.loop-k.totals (c.loop-k.invariant.told b is)
    (omega (arith, c.loop-k-test.false, c.clusters-k-end.ensures))
