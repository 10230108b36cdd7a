-- The book of a file that is begun.
use Rattle.std.proofs.Common.{◌≡◌, None, refl, sym, ap, subst, arith}
use Rattle.nt_grammar.specs.Table.{Table}
use Rattle.nt_book.specs.declared.params.Params.{Params}
use Rattle.nt_book.specs.Books.{BookData}
use Rattle.nt_close.specs.Beginning.{new_book}
use Rattle.nt_close.specs.Filled.{AreListsNoted}

-- no page list is noted in it yet
pub new-noted : (t : Table) (p : Params) (book : BookData) → book ≡ new_book t p → AreListsNoted t p book
new-noted t p book is =
    subst (AreListsNoted t p) (sym is) (record { staged = refl; group = refl; noted = λ k less. absurd (omega (arith, less)); short = tt })

-- and none failed
pub new-untorn : (t : Table) (p : Params) (book : BookData) → book ≡ new_book t p → book.torn ≡ None
new-untorn t p book is = ap (λ (b : BookData). b.torn) is
