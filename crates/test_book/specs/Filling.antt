-- A staged book before anything is published.
use Rattle.std.specs.Prelude.{◌≡◌, true, []}
use Rattle.std.specs.List.{AllByRecursion}
use Rattle.nt_machine.specs.History.{publishers_of}
use Rattle.nt_machine.specs.Legal.{IsFilledRange}
use Rattle.nt_book.specs.Books.{BookData, book_ranges}

-- all its ranges are filled
pub record HasFilledAll (book : BookData) : Type 0 where
  pub is_staged : book.staged ≡ true
  pub unpublished : publishers_of book.history ≡ []
  pub filled : AllByRecursion IsFilledRange (book_ranges book)
