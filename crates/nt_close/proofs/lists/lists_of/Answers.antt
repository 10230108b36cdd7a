use Rattle.std.proofs.Common.{ℕ, List, subst}
use Rattle.std.proofs.lemmas.Result.{err_from_is_err_and}
use Rattle.nt_close.specs.Making.{ArePassedBy, NonePassed}
use Rattle.nt_close.proofs.Left.{listed-fit}
use Rattle.nt_close.proofs.ListsLeft.{lens-left, lists-left}
use Rattle.nt_close.proofs.lists.lists_of.Goals as goal

pub groups_noted-requires-clause-inside : goal.groups_noted-requires-clause-inside
groups_noted-requires-clause-inside c = listed-fit c.args.header_sum c.args.params.now.group c.args.book.now c.keeps.ensures c.requires

pub returns-in_err-put_lists-clause-err : goal.returns-in_err-put_lists-clause-err
returns-in_err-put_lists-clause-err c =
    let p = err_from_is_err_and c.from_residual-in_err-put_lists.result c.from_residual-in_err-put_lists.ensures.1 in
    rw (p.1, p.2) (subst (λ (l : List ℕ). ArePassedBy c.args.params.now.limits l c.in_err-put_lists.field-0.0)
    (lens-left c.args.header_sum c.args.params.now.group c.args.book.now c.keeps.ensures c.requires) c.in_err-put_lists.ensures.err)

pub returns-clause-ok : goal.returns-clause-ok
returns-clause-ok c =
    lists-left c.args.header_sum c.args.params.now.group c.args.book.now c.keeps.ensures c.requires _ _ _ _
    c.new.ensures.items c.in_ok-groups.ensures c.in_ok-put_lists.ensures.ok

pub returns-clause-fit : goal.returns-clause-fit
returns-clause-fit c =
    subst (NonePassed c.args.params.now.limits)
    (lens-left c.args.header_sum c.args.params.now.group c.args.book.now c.keeps.ensures c.requires) c.in_ok-put_lists.ensures.fit
