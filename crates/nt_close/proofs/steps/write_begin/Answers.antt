use Rattle.std.proofs.Common.{refl, ◌∙◌, rules}
use Rattle.std.proofs.lemmas.Result.{err_from_is_err_and}
use Rattle.nt_close.specs.Steps.{torn_head, torn_blob, not_kept}
use Rattle.nt_close.proofs.steps.write_begin.Goals as goal

pub returns-in_err-append-clause-cut : goal.returns-in_err-append-clause-cut
returns-in_err-append-clause-cut g c =
    let p = err_from_is_err_and c.from_residual.result c.from_residual.ensures.1 in
    rw p.1 (λ h is. let torn = c.in_err-append.ensures.err h is in (torn.0, torn.1, torn_head torn.2))

pub returns-in_err-append-2-clause-cut : goal.returns-in_err-append-2-clause-cut
returns-in_err-append-2-clause-cut g c =
    let p = err_from_is_err_and c.from_residual-in_err-append-2.result c.from_residual-in_err-append-2.ensures.1 in
    rw p.1 (λ h is.
    let torn = c.in_err-append-2.ensures.err _ (c.in_ok-append.ensures.ok h is) in
    (torn.0, torn.1, torn_blob torn.2))

pub returns-in_err-sync-clause-cut : goal.returns-in_err-sync-clause-cut
returns-in_err-sync-clause-cut g c =
    let p = err_from_is_err_and c.from_residual-in_err-sync.result c.from_residual-in_err-sync.ensures.1 in
    rw p.1 (λ h is.
    (_, c.in_err-sync.ensures.err ∙ c.in_ok-append-2.ensures.ok _ (c.in_ok-append.ensures.ok h is), not_kept refl))

pub returns-clause-ok : goal.returns-clause-ok
returns-clause-ok g c = record {
  held = λ h is. c.in_ok-sync.ensures.ok _ (c.in_ok-append-2.ensures.ok _ (c.in_ok-append.ensures.ok h is));
  end = search rules;
}
