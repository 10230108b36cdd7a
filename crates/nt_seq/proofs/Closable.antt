-- A file that can be closed still can be once a cluster is put behind the others, or its book has other memory.
use Rattle.std.proofs.Common.{◌≡◌, ◌∙◌, ap, sym, subst, ◌≤◌, false, List, length, arith}
use Rattle.std.specs.List.{AllByRecursion}
use Rattle.nt_outside.specs.Disk.{DiskState}
use Rattle.nt_grammar.specs.Table.{Table}
use Rattle.nt_book.specs.declared.list.NotedList.{NotedList}
use Rattle.nt_book.specs.declared.params.Params.{Params}
use Rattle.nt_book.specs.Books.{BookData, book_end}
use Rattle.nt_pages.specs.declared.image.ClusterImage.{ClusterImage}
use Rattle.nt_commit.specs.Appending.{due_bytes}
use Rattle.nt_layout.specs.Beside.{HasListsBeside}
use Rattle.nt_close.specs.Closing.{IsClosable}
use Rattle.nt_append.specs.Appending.{AppendsImage, AreSizesNoted, KeepsDiskAndBook}
use Rattle.nt_append.proofs.Due.{all-with-due, due-long}
use Rattle.nt_seq.proofs.Beside.{lists-noted, lists-kept}
use Rattle.nt_seq.proofs.Flat.{params-flat}

module _ (old new : DiskState) (t : Table) (p : Params) (book next : BookData) (is : IsClosable old book t p) where
  -- a cluster more, and the page list that was due, which is no longer than a range may get
  pub closable-more : (i : ClusterImage) → book.staged ≡ false → AppendsImage i old new book next → HasListsBeside t p.group next
      → AreSizesNoted t p.group next → length (due_bytes book) ≤ p.limits.range → IsClosable new next t p
  closable-more i none appends beside sizes short = record {
    begin = ap (λ (b : BookData). b.begin) appends.gains.same ∙ is.begin;
    noted = lists-noted t p next (params-flat t p book is.noted none)
        (ap (λ (b : BookData). b.staged) appends.gains.same ∙ none) beside sizes
        (subst (λ (ls : List NotedList). AllByRecursion (λ (l : NotedList). l.len ≤ p.limits.range) ls)
        (sym (ap (λ (b : BookData). b.lists) appends.gains.same))
        (all-with-due book (λ (l : NotedList). l.len ≤ p.limits.range) is.noted.short
        (λ due. omega (arith, short, due-long book due))));
    end = appends.end;
    out = appends.out ∙ is.out;
    whole = is.whole;
  }

  -- other memory
  pub closable-kept : KeepsDiskAndBook old new book next → IsClosable new next t p
  closable-kept kept = record {
    begin = ap (λ (b : BookData). b.begin) kept.book_is ∙ is.begin;
    noted = lists-kept book next kept.book_is t p is.noted;
    end = kept.end ∙ (is.end ∙ sym (ap book_end kept.book_is));
    out = kept.out ∙ is.out;
    whole = is.whole;
  }
