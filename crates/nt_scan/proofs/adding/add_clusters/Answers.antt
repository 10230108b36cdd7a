use Rattle.std.proofs.Common.{◌∙◌, ap, sym, Err, arith, ℕ, List}
use Rattle.std.proofs.lemmas.Result.{err_from_is_err_and}
use Rattle.nt_tfile.specs.declared.failure.ReadFailure.{ReadFailure}
use Rattle.nt_scan.proofs.Clusters.{over-more}
use Rattle.nt_scan.proofs.Sums.{added-more}
use Rattle.nt_scan.proofs.Ended.{clusters-fail}
use Rattle.nt_scan.proofs.adding.add_clusters.Goals as goal

pub returns-in_err-cluster-clause-added : goal.returns-in_err-cluster-clause-added
returns-in_err-cluster-clause-added g c told is =
    let p = err_from_is_err_and c.from_residual.result c.from_residual.ensures.1 in
    let so_far = c.loop-k.invariant.added told is in
    rw (p.1, p.2)
    (clusters-fail told c.args.reader.now c.args.columns.now c.args.running.now c.loop-k.running c.loop-k.k so_far.0
    c.in_err-cluster.field-0.0
    (omega (arith, c.loop-k-test.true, c.clusters-k-end.ensures)) so_far.1
    (c.in_err-cluster.ensures.columns told (c.loop-k.invariant.same ∙ is)))

pub loop-k-preserved : goal.loop-k-preserved
loop-k-preserved g c = record {
  same = c.in_ok-cluster.ensures.file.same ∙ c.loop-k.invariant.same;
  later = omega (arith, c.in_ok-cluster.ensures.file.later, c.loop-k.invariant.later);
  len = c.add_columns.ensures.len ∙ c.loop-k.invariant.len;
  added = λ told is.
      let so_far = c.loop-k.invariant.added told is in
      let o = c.args.reader.now in (
        _,
        over-more told o c.loop-k.k so_far.0 c.in_ok-cluster.cluster.columns
            (omega (arith, c.loop-k-test.true, c.clusters-k-end.ensures)) so_far.1
            (c.in_ok-cluster.ensures.columns told (c.loop-k.invariant.same ∙ is)),
        added-more o.table so_far.0 c.in_ok-cluster.cluster.columns _ c.args.columns.now _ _ _ c.columns.ensures so_far.2
            (rw c.schema.ensures at c.add_columns.ensures.each),
      );
}
