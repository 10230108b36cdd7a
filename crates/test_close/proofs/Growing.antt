-- Books from their beginning to the closing of their file.
use Rattle.std.proofs.Common.{◌≡◌, ◌∙◌, List, [], ◌∷◌, ◌++◌, length, ap, refl, arith}
use Rattle.nt_machine.specs.declared.entry.Entry.{Entry}
use Rattle.nt_outside.specs.Disk.{DiskState}
use Rattle.nt_grammar.specs.Table.{Table}
use Rattle.nt_schema.specs.Whole.{AreWhole}
use Rattle.nt_book.specs.declared.list.NotedList.{NotedList}
use Rattle.nt_book.specs.declared.meta.ClusterMeta.{ClusterMeta}
use Rattle.nt_book.specs.declared.params.Params.{Params}
use Rattle.nt_book.specs.Books.{BookData, book_end}
use Rattle.nt_close.specs.Beginning.{new_book}
use Rattle.nt_close.specs.Closing.{IsClosable}
use Rattle.nt_close.proofs.NewBooks.{new-noted}
use Rattle.test_close.specs.Notes.{HasNotes, KeepsNotes}
use Rattle.test_close.proofs.Keeping.{keeps-nothing}
use Rattle.test_close.proofs.Out.{one_replicated}

-- no page list is noted of a new book
pub new-notes : (t : Table) (p : Params) (book : BookData) → book ≡ new_book t p → length t.columns ≡ 1 → HasNotes t p book
new-notes t p book is one = record {
  begin = ap (λ (b : BookData). b.begin) is;
  noted = new-noted t p book is;
  limits = ap (λ (b : BookData). b.limits) is;
  columns = ap (λ (b : BookData). length b.firsts) is ∙ one_replicated (length t.columns) one;
}

-- what is done one after the other
pub keeps-then : (a b c : BookData) → KeepsNotes a b → KeepsNotes b c → KeepsNotes a c
keeps-then a b c first then t p notes = then t p (first t p notes)

none-listed : (ls : List NotedList) → length ls ≡ 0 → ls ≡ []
none-listed [] is = refl
none-listed (l ∷ ls) is = absurd (omega (arith, is))

-- whatever happens to a cluster, where no page list is noted
pub keeps-spoiled : (old new : BookData) (e : Entry ClusterMeta) → new ≡ record old { history = old.history ++ e ∷ [] }
    → length old.lists ≡ 0 → KeepsNotes old new
keeps-spoiled old new e is none =
    keeps-nothing old new (ap (λ (b : BookData). b.begin) is) (ap (λ (b : BookData). b.limits) is)
    (ap (λ (b : BookData). b.group) is) (ap (λ (b : BookData). b.staged) is) (ap (λ (b : BookData). b.firsts) is)
    (ap (λ (b : BookData). b.lists) is ∙ none-listed old.lists none)

-- the file of a filled book can be closed
pub closable : (disk : DiskState) (book : BookData) (t : Table) (p : Params) → HasNotes t p book → disk.end ≡ book_end book
    → disk.out ≡ [] → AreWhole t → IsClosable disk book t p
closable disk book t p notes end out whole =
    record { begin = notes.begin; noted = notes.noted; end = end; out = out; whole = whole }
