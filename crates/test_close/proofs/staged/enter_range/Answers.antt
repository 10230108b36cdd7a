use Rattle.std.proofs.Common.{◌∙◌, ◌++◌, ◌∷◌, [], ap}
use Rattle.nt_book.specs.Books.{BookData, book_end}
use Rattle.nt_book.specs.Entries.{reserved_entry, settled_entry}
use Rattle.nt_close.proofs.TestBooks.{out-staged, all-filled-more}
use Rattle.test_close.proofs.Growing.{keeps-then}
use Rattle.test_close.proofs.Publishing.{keeps-staged}
use Rattle.test_close.proofs.staged.enter_range.Goals as goal

pub settle-requires : goal.settle-requires
settle-requires c =
    out-staged _ _ _ _ c.args.meta.now c.reserve-range.ensures.number (ap (λ (b : BookData). b.history) c.reserve-range.ensures.book)

pub returns-clause-unpublished : goal.returns-clause-unpublished
returns-clause-unpublished c =
    let e = reserved_entry c.reserve-range.result (book_end c.make_room.new.book) c.args.meta.now in
    all-filled-more c.args.book.now c.reserve-range.new.self c.settle.new.self c.reserve-range.result (book_end c.make_room.new.book)
    c.args.meta.now c.requires.unpublished
    (ap (λ (b : BookData). b.history) c.reserve-range.ensures.book
    ∙ ap (λ (b : BookData). b.history ++ e ∷ []) c.make_room.ensures.same)
    (ap (λ (b : BookData). b.staged) c.settle.ensures.book
    ∙ (ap (λ (b : BookData). b.staged) c.reserve-range.ensures.book ∙ ap (λ (b : BookData). b.staged) c.make_room.ensures.same))
    (ap (λ (b : BookData). b.history) c.settle.ensures.book)

pub returns-clause-notes : goal.returns-clause-notes
returns-clause-notes c =
    let back = settled_entry c.args.meta.now.context c.reserve-range.result in
    keeps-then c.args.book.now c.make_room.new.book c.settle.new.self c.make_room.ensures.notes
    (keeps-staged c.make_room.new.book c.settle.new.self _ _ _ c.keeps.ensures
    (ap (λ (b : BookData). b.staged) c.make_room.ensures.same ∙ c.requires.unpublished.staged)
    (c.settle.ensures.book
    ∙ ap (λ (b : BookData). record b { history = b.history ++ back ∷ [] }) c.reserve-range.ensures.book))
