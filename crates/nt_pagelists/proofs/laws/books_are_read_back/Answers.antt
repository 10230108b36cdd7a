use Rattle.nt_pagelists.proofs.BooksBack.{book-reads}
use Rattle.nt_pagelists.proofs.laws.books_are_read_back.Goals as goal

pub returns : goal.returns
returns c = book-reads
