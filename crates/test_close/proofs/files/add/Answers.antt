use Rattle.std.proofs.Common.{◌≡◌, ◌∙◌, ap, sym, false}
use Rattle.std.proofs.lemmas.Result.{on_ok_weaker}
use Rattle.nt_book.specs.Books.{BookData}
use Rattle.test_close.proofs.Growing.{keeps-then}
use Rattle.test_close.proofs.Keeping.{keeps-cluster}
use Rattle.test_close.proofs.Out.{out_behind}
use Rattle.test_close.proofs.files.add.Goals as goal

pub spoil_last-requires : goal.spoil_last-requires
spoil_last-requires c =
    out_behind c.make_room.new.book.history _ _ _ _ c.in_ok-meta.meta (ap (λ (b : BookData). b.history) c.append-cluster.ensures.book)
    c.append-cluster.ensures.number c.in_ok-meta.ensures.context

pub returns-clause-notes : goal.returns-clause-notes
returns-clause-notes c =
    let flat : c.make_room.new.book.staged ≡ false =
    ap (λ (b : BookData). b.staged) c.make_room.ensures.same ∙ (sym c.staged.ensures ∙ c.if-staged.false) in
    on_ok_weaker c.spoil_last.result
    (keeps-then c.args.book.now c.append-cluster.new.self c.spoil_last.new.book
    (keeps-then c.args.book.now c.make_room.new.book c.append-cluster.new.self c.make_room.ensures.notes
    (keeps-cluster c.make_room.new.book c.append-cluster.new.self _ _ _ c.in_ok-meta.meta c.keeps.ensures flat
    c.append-cluster.ensures.book)))
    c.spoil_last.ensures
