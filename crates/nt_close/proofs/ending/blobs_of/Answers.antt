use Rattle.std.proofs.Common.{rules, ℕ, ◌<◌, List, length, subst}
use Rattle.std.proofs.lemmas.Result.{err_from_is_err_and, IfOk-weaker, IfErr-weaker, on_ok_weaker}
use Rattle.nt_pagelists.specs.Blobs.{blob_len}
use Rattle.nt_layout.specs.Finished.{list_places, footer_object}
use Rattle.nt_close.specs.Making.{NonePassed, ArePassedBy}
use Rattle.nt_close.proofs.Fitting.{fit-more, passed-last, passed-before}
use Rattle.nt_close.proofs.Endings.{footer-behind, footer_len_is, left_lens_are}
use Rattle.nt_close.proofs.ending.blobs_of.Goals as goal

pub returns-in_err-lists-clause-err : goal.returns-in_err-lists-clause-err
returns-in_err-lists-clause-err c =
    let t = c.args.schema.now in let book = c.args.book.now in let most = c.args.params.now.group in
    let some : 0 < most = search rules in
    let p = err_from_is_err_and c.from_residual-in_err-lists.result c.from_residual-in_err-lists.ensures.1 in
    let passed = subst (λ (l : List ℕ). ArePassedBy c.args.params.now.limits l c.in_err-lists.field-0.0)
    (left_lens_are t book c.args.params.now some c.keeps.ensures c.requires _ c.in_ok-header.ensures.sum_is) c.in_err-lists.ensures.err in
    rw (p.1, p.2) (passed-before c.args.params.now.limits _
    (blob_len (length (footer_object t book (list_places c.args.params.now.staged t book most)))) c.in_err-lists.field-0.0 passed)

pub returns-clause-ok : goal.returns-clause-ok
returns-clause-ok c =
    let some : 0 < c.args.params.now.group = search rules in
    IfOk-weaker c.put_footer.result _ _
    (λ b adds. footer-behind c.args.schema.now c.args.book.now c.args.params.now some c.keeps.ensures c.requires _ _ _ _ _ _
    c.in_ok-header.ensures.sum_is c.end.ensures c.in_ok-lists.ensures.ok.groups_are c.in_ok-lists.ensures.ok.bytes_are adds)
    c.put_footer.ensures.ok

pub returns-clause-fit : goal.returns-clause-fit
returns-clause-fit c =
    let some : 0 < c.args.params.now.group = search rules in
    on_ok_weaker c.put_footer.result
    (λ fits.
    subst (NonePassed c.args.params.now.limits) (footer_len_is c.args.schema.now c.args.book.now c.args.params.now
    some c.keeps.ensures c.requires _ _ c.in_ok-header.ensures.sum_is c.in_ok-lists.ensures.ok.groups_are)
    (fit-more c.args.params.now.limits _ _ c.in_ok-lists.ensures.fit fits))
    c.put_footer.ensures.fits

pub returns-clause-err : goal.returns-clause-err
returns-clause-err c =
    let some : 0 < c.args.params.now.group = search rules in
    IfErr-weaker c.put_footer.result _ _
    (λ e passed.
    subst (λ (l : List ℕ). ArePassedBy c.args.params.now.limits l e) (footer_len_is c.args.schema.now c.args.book.now
    c.args.params.now some c.keeps.ensures c.requires _ _ c.in_ok-header.ensures.sum_is c.in_ok-lists.ensures.ok.groups_are)
    (passed-last c.args.params.now.limits _ _ e c.in_ok-lists.ensures.fit passed))
    c.put_footer.ensures.err
