use Rattle.std.proofs.Common.{◌∙◌, ◌++◌, ◌∷◌, [], ap}
use Rattle.nt_book.specs.Books.{BookData, book_end}
use Rattle.nt_book.specs.Entries.{reserved_entry}
use Rattle.nt_close.proofs.TestBooks.{out-staged, all-filled-more}
use Rattle.nt_close.proofs.tests.fill.Goals as goal

pub settle-requires : goal.settle-requires
settle-requires c =
    out-staged _ _ _ _ c.args.meta.now c.reserve-range.ensures.number (ap (λ (b : BookData). b.history) c.reserve-range.ensures.book)

pub returns-clause-unpublished : goal.returns-clause-unpublished
returns-clause-unpublished c =
    let e = reserved_entry c.reserve-range.result (book_end c.room.new.self) c.args.meta.now in
    all-filled-more c.args.book.now c.reserve-range.new.self c.settle.new.self c.reserve-range.result (book_end c.room.new.self)
    c.args.meta.now c.requires.unpublished
    (ap (λ (b : BookData). b.history) c.reserve-range.ensures.book
    ∙ ap (λ (b : BookData). b.history ++ e ∷ []) c.room.ensures.same)
    (ap (λ (b : BookData). b.staged) c.settle.ensures.book
    ∙ (ap (λ (b : BookData). b.staged) c.reserve-range.ensures.book ∙ ap (λ (b : BookData). b.staged) c.room.ensures.same))
    (ap (λ (b : BookData). b.history) c.settle.ensures.book)
