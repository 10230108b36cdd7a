use Rattle.std.proofs.Common.{◌∙◌, ap, sym, subst, List, ℕ}
use Rattle.std.specs.List.{AllByRecursion}
use Rattle.nt_machine.specs.Deal.{times}
use Rattle.nt_machine.specs.History.{publishers_of}
use Rattle.nt_machine.specs.Legal.{IsFilledRange}
use Rattle.nt_book.specs.Books.{BookData, book_ranges}
use Rattle.nt_close.proofs.TestBooks.{own-settled}
use Rattle.nt_close.proofs.tests.publish.Goals as goal

pub publish-requires : goal.publish-requires
publish-requires c =
    let same = c.room_to_publish.ensures.same in
    record {
      ready = c.in_ok-room_to_publish.ensures.ok;
      before = ap (λ (b : BookData). times c.args.context (publishers_of b.history)) same
          ∙ ap (λ (l : List ℕ). times c.args.context l) c.requires.unpublished;
      filled = own-settled (book_ranges c.room_to_publish.new.self) c.args.context
          (subst (λ (b : BookData). AllByRecursion IsFilledRange (book_ranges b)) (sym same) c.requires.filled);
    }
