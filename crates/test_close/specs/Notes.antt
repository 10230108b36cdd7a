-- Books whose page lists are noted as they are appended, and staged ones, which have none to note.
use Rattle.std.specs.Prelude.{◌≡◌, true, length}
use Rattle.std.specs.List.{AllByRecursion}
use Rattle.nt_machine.specs.Legal.{IsFilledRange}
use Rattle.nt_grammar.specs.Table.{Table}
use Rattle.nt_book.specs.declared.params.Params.{Params}
use Rattle.nt_book.specs.Books.{BookData, book_ranges}
use Rattle.nt_layout.specs.Headers.{clusters_place}
use Rattle.nt_close.specs.Filled.{AreListsNoted}

-- a book of one column begins behind the header, with the limits of these parameters, and its page lists are noted
pub record HasNotes (t : Table) (p : Params) (book : BookData) : Type 0 where
  pub begin : book.begin ≡ clusters_place t
  pub noted : AreListsNoted t p book
  pub limits : book.limits ≡ p.limits
  pub columns : length book.firsts ≡ 1

-- they still are
abbrev pub KeepsNotes : BookData → BookData → Type 0
KeepsNotes old new = (t : Table) (p : Params) → HasNotes t p old → HasNotes t p new

-- all ranges of a staged book are filled
pub record IsAllFilled (book : BookData) : Type 0 where
  pub staged : book.staged ≡ true
  pub filled : AllByRecursion IsFilledRange (book_ranges book)
