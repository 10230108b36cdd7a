-- The steps of a merge, one behind the other.
use Rattle.std.proofs.Common.{◌≡◌, ◌∙◌, ap, sym, ℕ, ◌≤◌, false, List, length, Ok, Err, Result, arith}
use Rattle.std.specs.Prelude.{OnOk}
use Rattle.std.proofs.lemmas.List.{length-replicate}
use Rattle.nt_lists.proofs.Variants.{err_is}
use Rattle.nt_outside.specs.Faults.{Rose}
use Rattle.nt_outside.specs.File.{FileState}
use Rattle.nt_outside.specs.Disk.{DiskState}
use Rattle.nt_grammar.specs.Table.{Table}
use Rattle.nt_book.specs.declared.params.Params.{Params}
use Rattle.nt_book.specs.Books.{BookData, book_end}
use Rattle.nt_file_meaning.specs.Outlines.{Outline}
use Rattle.nt_seq.specs.Standing.{IsBlankDisk}
use Rattle.nt_merge.specs.declared.error.MergeError.{MergeError}
use Rattle.nt_merge.specs.declared.error.MergeError.TheVariants.{ReadFault, DiskFault}
use Rattle.nt_merge.specs.Copying.{MayCopyInto}
use Rattle.nt_merge.specs.Files.{KeepFiles}
use Rattle.nt_merge.specs.Joining.{BeginsTarget, IsClosableCopy, IsMergeSchema, RefusesTarget, ServesClose, ServesMerge}
use Rattle.nt_merge.specs.Merging.{IsMerging}
use Rattle.nt_merge.proofs.Ended.{undamaged}
use Rattle.nt_merge.proofs.Kept.{keep-none}
use Rattle.nt_merge.proofs.Started.{merging-begun}
use Rattle.nt_merge.proofs.Target.{begin-rose, begin-reads}

module _ (t : Table) (p : Params) (old new : DiskState) (book : BookData) (columns : ℕ) (flat : p.staged ≡ false)
    (is : BeginsTarget t p old new book columns) where
  pub may-copy : MayCopyInto columns new book
  may-copy =
      let firsts = ap (λ (b : BookData). length b.firsts) is.begun.book_is in
      let long = length-replicate (length t.columns) 0 in
      let ends = ap book_end is.begun.book_is in
      record {
        columns_are = is.columns_are ∙ sym (firsts ∙ long);
        not_staged = ap (λ (b : BookData). b.staged) is.begun.book_is ∙ flat;
        end = omega (arith, is.begun.end, ends);
      }

  pub begun-merging : IsBlankDisk old → (os : List Outline) → IsMergeSchema t os → IsMerging t p old new book
  begun-merging blank os schema = merging-begun t p old new book flat is.begun blank.held blank.out schema.whole schema.none_deferred

pub closable-copy : (t : Table) (p : Params) (given old : DiskState) (book : BookData) → IsMerging t p given old book
    → IsClosableCopy t p old book
closable-copy t p given old book is = record { closable = is.closable; undamaged = undamaged t p given old book is }

-- ---- who is blamed

rose-behind : (a b c : ℕ) → a ≤ b → Rose b c → Rose a c
rose-behind a b c le rose = omega (arith, le, rose)

later-behind : {A : Type 0} (r : Result A MergeError) (a b c : ℕ) → a ≤ b → OnOk r (b ≤ c) → OnOk r (a ≤ c)
later-behind (Ok x) a b c le later = omega (arith, le, later)
later-behind (Err e) a b c le later = tt

module _ {F : Type 0} (state : F → FileState) where
  -- the file wasn't begun
  pub serves-begin : (files : List F) (t : Table) (p : Params) (old new : DiskState) (e : MergeError) → RefusesTarget t p old new e
      → ServesMerge state {A = ℕ × ℕ} files files old new (Err e)
  serves-begin files t p old new e refused = record {
    kept = keep-none state files;
    rose = λ is. absurd (begin-reads t p old new e refused (err_is e ReadFault is));
    disk = λ is. begin-rose t p old new e refused (err_is e DiskFault is);
    later = tt;
  }

  -- the clusters weren't all copied
  pub serves-copies : (files files' : List F) (old begun new : DiskState) (e : MergeError) → old.faults ≤ begun.faults
      → ServesMerge state {A = Unit {0}} files files' begun new (Err e) → ServesMerge state {A = ℕ × ℕ} files files' old new (Err e)
  serves-copies files files' old begun new e le served = record {
    kept = served.kept;
    rose = λ is. served.rose (ap (λ (f : MergeError). Err f) (err_is e ReadFault is));
    disk = λ is.
        rose-behind old.faults begun.faults new.faults le (served.disk (ap (λ (f : MergeError). Err f) (err_is e DiskFault is)));
    later = tt;
  }

  -- they were
  pub serves-close : (files files' : List F) (old begun copied new : DiskState) (result : Result (ℕ × ℕ) MergeError)
      → old.faults ≤ begun.faults → begun.faults ≤ copied.faults → KeepFiles state files files' → ServesClose copied new result
      → ServesMerge state {A = ℕ × ℕ} files files' old new result
  serves-close files files' old begun copied new result one two kept served =
      let le : old.faults ≤ copied.faults = omega (arith, one, two) in
      record {
        kept = kept;
        rose = λ is. absurd (served.no_other is);
        disk = λ is. rose-behind old.faults copied.faults new.faults le (served.fault is);
        later = later-behind result old.faults copied.faults new.faults le served.later;
      }
