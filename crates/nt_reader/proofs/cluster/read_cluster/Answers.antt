use Rattle.std.proofs.Common.{List, ◌∙◌}
use Rattle.std.proofs.lemmas.Result.{err_from_is_err_and}
use Rattle.nt_types.specs.TreeData.{TreesData}
use Rattle.nt_encode.specs.Elements.{Element}
use Rattle.nt_listing.proofs.KeptTypes.{loaded-typed}
use Rattle.nt_reader.proofs.ClusterSteps.{columns-fail, values-fail, values-over, cluster-done}
use Rattle.nt_reader.proofs.ClusterSteps.{only-columns-fail, only-values-fail, only-columns-done}
use Rattle.nt_reader.proofs.cluster.read_cluster.Goals as goal

pub returns-in_err-columns-clause-read : goal.returns-in_err-columns-clause-read
returns-in_err-columns-clause-read g c told is =
    let p = err_from_is_err_and c.from_residual.result c.from_residual.ensures.1 in
    rw (p.1, p.2)
    (columns-fail (λ (l : List (List Element)). l) (λ (l : List TreesData). l) told c.args.schema.now c.args.number c.args.cluster.now _
    (c.in_err-columns.ensures.read told is))

pub returns-in_err-check_cluster-clause-read : goal.returns-in_err-check_cluster-clause-read
returns-in_err-check_cluster-clause-read g c told is =
    let p = err_from_is_err_and c.from_residual-in_err-check_cluster.result c.from_residual-in_err-check_cluster.ensures.1 in
    rw (p.1, p.2) (values-fail told c.args.schema.now c.args.number c.args.cluster.now _ _
    (c.in_ok-columns.ensures.read told is)
    (values-over c.args.schema.now c.args.number c.args.cluster.now c.in_ok-columns.columns c.in_ok-columns.ensures.columns
    ∙ c.in_err-check_cluster.ensures.fault))

pub returns-clause-read : goal.returns-clause-read
returns-clause-read g c told is =
    cluster-done told c.args.schema.now c.args.number c.args.cluster.now _ _ (c.in_ok-columns.ensures.read told is)
    (values-over c.args.schema.now c.args.number c.args.cluster.now c.in_ok-columns.columns c.in_ok-columns.ensures.columns
    ∙ c.in_ok-check_cluster.ensures.fault)

pub returns-in_err-columns-clause-columns : goal.returns-in_err-columns-clause-columns
returns-in_err-columns-clause-columns g c told is =
    let p = err_from_is_err_and c.from_residual.result c.from_residual.ensures.1 in
    rw (p.1, p.2)
    (only-columns-fail (λ (l : List (List Element)). l) (λ (l : List (List Element)). l) told c.args.schema.now c.args.number
    c.args.cluster.now _ (c.in_err-columns.ensures.read told is))

pub returns-in_err-check_cluster-clause-columns : goal.returns-in_err-check_cluster-clause-columns
returns-in_err-check_cluster-clause-columns g c told is =
    let p = err_from_is_err_and c.from_residual-in_err-check_cluster.result c.from_residual-in_err-check_cluster.ensures.1 in
    rw (p.1, p.2) (only-values-fail told c.args.schema.now c.args.number c.args.cluster.now _ _
    (c.in_ok-columns.ensures.read told is)
    (values-over c.args.schema.now c.args.number c.args.cluster.now c.in_ok-columns.columns c.in_ok-columns.ensures.columns
    ∙ c.in_err-check_cluster.ensures.fault))

pub returns-clause-columns : goal.returns-clause-columns
returns-clause-columns g c told is =
    only-columns-done told c.args.schema.now c.args.number c.args.cluster.now _ _ (c.in_ok-columns.ensures.read told is)
    (values-over c.args.schema.now c.args.number c.args.cluster.now c.in_ok-columns.columns c.in_ok-columns.ensures.columns
    ∙ c.in_ok-check_cluster.ensures.fault)

pub invariant_of-result : goal.invariant_of-result
invariant_of-result g c = record {
  all = c.in_ok-columns.ensures.columns;
  are = record {
    sound = c.in_ok-check_cluster.ensures.sound;
    typed = loaded-typed c.args.schema.now.columns c.in_ok-columns.columns c.in_ok-columns.ensures.types c.in_range.ensures;
  };
}
