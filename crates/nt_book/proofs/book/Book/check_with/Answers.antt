use Rattle.std.proofs.Common.{◌∙◌, ◌≡◌, ap, sym, arith, true, false, length}
use Rattle.std.proofs.lemmas.Bool.{eq-eqb}
use Rattle.nt_book.specs.Books.{BookData, book_end}
use Rattle.nt_book.proofs.Fitting.{limit_error_with-fits}
use Rattle.nt_book.proofs.Telling.{limit_with-book, end-book}
use Rattle.nt_machine.proofs.Histories.{not-eqb}
use Rattle.nt_book.proofs.book.Book.check_with.Goals as goal

pub returns-then-len-self : goal.returns-then-len-self
returns-then-len-self c =
    let h = c.self.invariant.0 in
    let told = ap (λ (b : BookData). b.history) c.self.view_is in
    let ends : book_end c.args.self.now ≡ c.self.inside.end =
    end-book _ _ _ h c.args.self.now told _ _ (sym (ap (λ (b : BookData). b.begin) c.self.view_is))
    (sym (ap (λ (b : BookData). b.lists) c.self.view_is)) (sym (ap (λ (b : BookData). b.torn) c.self.view_is))
    ∙ sym c.self.invariant.4.ends in
    let full : length c.self.inside.rows.items ≡ c.self.inside.limits.clusters =
    omega (arith, c.len.ensures, c.self.inside.rows.ok, c.if-len-self.true) in
    sym (limit_with-book _ _ _ h c.args.self.now told c.self.inside.limits c.self.inside.end c.args.len c.args.list
    (ap (λ (b : BookData). b.limits) c.self.view_is) ends
    ∙ limit_error_with-fits c.self.inside.limits c.self.inside.end (length c.self.inside.rows.items) c.args.len c.args.list true
    c.if-len-limit.false c.if-list-limit.false c.if-end-self.false
    (eq-eqb (length c.self.inside.rows.items) c.self.inside.limits.clusters full))

pub returns : goal.returns
returns c =
    let h = c.self.invariant.0 in
    let told = ap (λ (b : BookData). b.history) c.self.view_is in
    let ends : book_end c.args.self.now ≡ c.self.inside.end =
    end-book _ _ _ h c.args.self.now told _ _ (sym (ap (λ (b : BookData). b.begin) c.self.view_is))
    (sym (ap (λ (b : BookData). b.lists) c.self.view_is)) (sym (ap (λ (b : BookData). b.torn) c.self.view_is))
    ∙ sym c.self.invariant.4.ends in
    let lens = c.len.ensures in
    let fewer : length c.self.inside.rows.items ≡ c.self.inside.limits.clusters → ⊥ =
    λ full. c.if-len-self.false (omega (arith, lens, c.self.inside.rows.ok, full)) in
    sym (limit_with-book _ _ _ h c.args.self.now told c.self.inside.limits c.self.inside.end c.args.len c.args.list
    (ap (λ (b : BookData). b.limits) c.self.view_is) ends
    ∙ limit_error_with-fits c.self.inside.limits c.self.inside.end (length c.self.inside.rows.items) c.args.len c.args.list false
    c.if-len-limit.false c.if-list-limit.false c.if-end-self.false
    (not-eqb (length c.self.inside.rows.items) c.self.inside.limits.clusters fewer))
