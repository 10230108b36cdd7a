use Rattle.std.proofs.Common.{◌≡◌, ◌∙◌, ap, sym, subst, List, ℕ, [], ◌∷◌}
use Rattle.std.specs.List.{AllByRecursion}
use Rattle.nt_machine.specs.Deal.{times}
use Rattle.nt_machine.specs.History.{publishers_of}
use Rattle.nt_machine.specs.Legal.{IsFilledRange}
use Rattle.nt_book.specs.Books.{BookData, book_ranges}
use Rattle.test_book.proofs.Filled.{own-filled, ranges-published, who-published}
use Rattle.test_book.proofs.tests.publish_both.Goals as goal

pub publish-requires : goal.publish-requires
publish-requires c =
    let same = c.room_to_publish.ensures.same in
    record {
      ready = c.in_ok-room_to_publish.ensures.ok;
      before = ap (λ (b : BookData). times 1 (publishers_of b.history)) same ∙ ap (λ (l : List ℕ). times 1 l) c.requires.unpublished;
      filled = own-filled (book_ranges c.room_to_publish.new.self) 1
          (subst (λ (b : BookData). AllByRecursion IsFilledRange (book_ranges b)) (sym same) c.requires.filled);
    }

pub publish-requires-2 : goal.publish-requires-2
publish-requires-2 c =
    let book = c.room_to_publish.new.self in
    let same = c.room_to_publish.ensures.same in
    let again = c.room_to_publish-2.ensures.same in
    let who : publishers_of c.room_to_publish-2.new.self.history ≡ 1 ∷ [] =
    ap (λ (b : BookData). publishers_of b.history) again
    ∙ (ap (λ (b : BookData). publishers_of b.history) c.publish.ensures.book
    ∙ who-published book.history (book_ranges book) 1
    (ap (λ (b : BookData). publishers_of b.history) same ∙ c.requires.unpublished)) in
    let ranges : book_ranges c.room_to_publish-2.new.self ≡ book_ranges c.args.book.now =
    ap book_ranges again
    ∙ (ap book_ranges c.publish.ensures.book
    ∙ (ranges-published book.history (book_ranges book) 1 ∙ ap book_ranges same)) in
    record {
      ready = c.in_ok-room_to_publish-2.ensures.ok;
      before = ap (λ (l : List ℕ). times 0 l) who;
      filled = own-filled (book_ranges c.room_to_publish-2.new.self) 0
          (subst (AllByRecursion IsFilledRange) (sym ranges) c.requires.filled);
    }
