-- A book without clusters.
use Rattle.std.proofs.Common.{◌≡◌, arith}
use Rattle.nt_grammar.specs.Table.{Table}
use Rattle.nt_book.specs.declared.params.Params.{Params}
use Rattle.nt_book.specs.Books.{book_end}
use Rattle.nt_layout.specs.Headers.{clusters_place}
use Rattle.nt_close.specs.Beginning.{new_book}

-- it ends where its ranges begin
pub new_book_end : (t : Table) (p : Params) → book_end (new_book t p) ≡ clusters_place t
new_book_end t p = omega arith
