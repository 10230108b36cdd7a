use Rattle.std.proofs.Common.{◌∙◌, ◌++◌, ◌∷◌, [], None, ap, sym, subst}
use Rattle.std.specs.List.{AllByRecursion}
use Rattle.nt_machine.specs.Deal.{times}
use Rattle.nt_machine.specs.History.{publishers_of}
use Rattle.nt_machine.specs.Legal.{IsFilledRange}
use Rattle.nt_book.specs.Books.{BookData, book_ranges}
use Rattle.nt_book.specs.Entries.{published_entry}
use Rattle.nt_close.proofs.TestBooks.{own-settled}
use Rattle.test_close.proofs.Publishing.{keeps-staged, published-by, published-filled}
use Rattle.test_close.proofs.staged.publish.Goals as goal

pub publish-requires : goal.publish-requires
publish-requires c =
    let same = c.room_to_publish.ensures.same in
    record {
      ready = c.in_ok-room_to_publish.ensures.ok;
      before = ap (λ (b : BookData). times c.args.context (publishers_of b.history)) same ∙ c.requires.before;
      filled = own-settled (book_ranges c.room_to_publish.new.self) c.args.context
          (subst (λ (b : BookData). AllByRecursion IsFilledRange (book_ranges b)) (sym same) c.requires.filled.filled);
    }

pub returns-clause-filled : goal.returns-clause-filled
returns-clause-filled c =
    let same = c.room_to_publish.ensures.same in
    published-filled c.args.book.now c.publish.new.self c.args.context c.requires.filled
    (ap (λ (b : BookData). b.staged) c.publish.ensures.book ∙ ap (λ (b : BookData). b.staged) same)
    (ap (λ (b : BookData). b.history) c.publish.ensures.book
    ∙ ap (λ (b : BookData). b.history ++ published_entry (book_ranges b) c.args.context ∷ []) same)

pub returns-clause-publishers : goal.returns-clause-publishers
returns-clause-publishers c =
    published-by c.args.book.now c.publish.new.self c.args.context
    (ap (λ (b : BookData). b.history) c.publish.ensures.book
    ∙ ap (λ (b : BookData). b.history ++ published_entry (book_ranges b) c.args.context ∷ []) c.room_to_publish.ensures.same)

pub returns-clause-notes : goal.returns-clause-notes
returns-clause-notes c =
    keeps-staged c.args.book.now c.publish.new.self _ _ _ c.keeps.ensures c.requires.filled.staged
    (c.publish.ensures.book
    ∙ ap (λ (b : BookData). record b {
      history = b.history ++ published_entry (book_ranges b) c.args.context ∷ [];
      ready = None;
    }) c.room_to_publish.ensures.same)
