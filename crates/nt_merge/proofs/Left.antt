-- What is left of a cluster that is copied, by the answer of each step.
use Rattle.std.proofs.Common.{◌≡◌, ◌≢◌, ◌∙◌, ap, sym, refl, ℕ, ◌+◌, List, [], ◌∷◌, length, Option, Some, Result, Err}
use Rattle.std.proofs.Common.{suc}
use Rattle.std.specs.List.{range_with_len}
use Rattle.std.proofs.lemmas.List.{length-map}
use Rattle.std.proofs.lemmas.List.FromFn.{length-range_with_len}
use Rattle.nt_types.specs.TreeData.{TreesData}
use Rattle.nt_outside.specs.Faults.{Rose}
use Rattle.nt_outside.specs.Disk.{DiskState}
use Rattle.nt_book.specs.declared.meta.ClusterMeta.{ClusterMeta}
use Rattle.nt_book.specs.Books.{BookData, book_ranges, book_end}
use Rattle.nt_book.specs.Limiting.{limit_error_with}
use Rattle.nt_commit.specs.declared.error.CommitError.{CommitError}
use Rattle.nt_commit.specs.declared.error.CommitError.TheVariants as commit
use Rattle.nt_commit.specs.Appending.{due_bytes}
use Rattle.nt_commit.specs.Claims.{limit_in}
use Rattle.nt_pages.specs.declared.image.ClusterImage.{ClusterImage}
use Rattle.nt_tfile.specs.declared.failure.ReadFailure.{ReadFailure}
use Rattle.nt_tfile.specs.declared.failure.ReadFailure.TheVariants as failure
use Rattle.nt_tfile.specs.Calls.{IsReadOrFails}
use Rattle.nt_file_meaning.specs.Clusters.{cluster_of}
use Rattle.nt_file_meaning.specs.Outlines.{Outline}
use Rattle.nt_reader.specs.Outlines.{numbered_cluster}
use Rattle.nt_view.specs.Loaded.{Loaded, loaded_pages}
use Rattle.nt_book.specs.declared.limits.LimitError.{LimitError}
use Rattle.nt_copied.specs.Stored.{StoredPage, stored_metas, stored_column, stored_meta}
use Rattle.nt_copying.specs.Copied.{copied_columns, copied_pages}
use Rattle.nt_append.specs.Appending.{FailsOnDisk, KeepsDiskAndBook}
use Rattle.nt_merge.specs.declared.copy_error.CopyError.TheVariants.{Read, Commit}
use Rattle.nt_merge.specs.Copying.{LeavesLoaded, LeavesCluster}
use Rattle.nt_merge.specs.Copying.{IsReadOver, source_at}
use Rattle.nt_merge.specs.Copying.{limit_of_copy}

-- a list of pages for each column
metas-length : (cs : List (List StoredPage)) (place : ℕ) → length (stored_metas place cs) ≡ length cs
metas-length [] place = refl
metas-length (c ∷ cs) place = ap suc (metas-length cs (place + length (stored_column c)))

pub lists-copied : (l : Loaded) (columns entries : ℕ) → length (stored_meta 0 entries (copied_columns l 0 columns)).pages ≡ columns
lists-copied l columns entries =
    metas-length (copied_columns l 0 columns) 0
    ∙ (length-map (range_with_len 0 columns) (λ (k : ℕ). copied_pages (loaded_pages l k)) ∙ length-range_with_len 0 columns)

-- disk and book are as they were
pub keeps-all : (disk : DiskState) (book : BookData) → KeepsDiskAndBook disk disk book book
keeps-all disk book = record { held = refl; end = refl; out = refl; faults = refl; book_is = refl }

module _ (l : Loaded) (columns entries : ℕ) (old new : DiskState) (book book' : BookData) (image : ClusterImage)
    (meta : image.meta ≡ stored_meta 0 entries (copied_columns l 0 columns)) where
  abbrev passed : Option LimitError
  passed = limit_error_with book.limits (book_end book) (length (book_ranges book)) image.meta.len (length (due_bytes book))

  pub same-limit : limit_of_copy l columns entries book ≡ passed
  same-limit =
      ap (λ (m : ClusterMeta). limit_error_with book.limits (book_end book) (length (book_ranges book)) m.len (length (due_bytes book)))
      (sym meta)

  pub after-refusal : (e : CommitError) → ((◌≡◌ {A = Result (Unit {0}) CommitError} (Err e) (Err commit.Memory) → ⊥) → passed ≡ limit_in e)
      → ((f : CommitError) → ◌≡◌ {A = Result (Unit {0}) CommitError} (Err e) (Err f) → f ≢ commit.Fault
      → KeepsDiskAndBook old new book book')
      → (◌≡◌ {A = Result (Unit {0}) CommitError} (Err e) (Err commit.Fault) → FailsOnDisk image old new book book')
      → LeavesLoaded l columns entries old new book book' (Err e)
  after-refusal (commit.RangeTooLarge len most) limit kept fails =
      record { passes = same-limit ∙ limit (λ is. cc is); kept = kept (commit.RangeTooLarge len most) refl (λ is. cc is) }
  after-refusal (commit.FileTooLarge end most) limit kept fails =
      record { passes = same-limit ∙ limit (λ is. cc is); kept = kept (commit.FileTooLarge end most) refl (λ is. cc is) }
  after-refusal commit.TooManyClusters limit kept fails =
      record { passes = same-limit ∙ limit (λ is. cc is); kept = kept commit.TooManyClusters refl (λ is. cc is) }
  after-refusal commit.Memory limit kept fails = kept commit.Memory refl (λ is. cc is)
  after-refusal commit.Fault limit kept fails = record { image = image; fails = fails refl }

-- a cluster that isn't read
pub left-unread : (file : Option (List ℕ)) (o : Outline) (k columns : ℕ) (disk : DiskState) (book : BookData)
    (view : Loaded → List TreesData)
    (e : ReadFailure)
    → ((b : List ℕ) → file ≡ Some b → IsReadOrFails view (Err e) (cluster_of b o.table k (numbered_cluster o k)))
    → LeavesCluster file o k columns disk disk book book (Err (Read e))
left-unread file o k columns disk book view (failure.Defect e) reads = record { read = reads; kept = keeps-all disk book }
left-unread file o k columns disk book view failure.Fault reads = keeps-all disk book
left-unread file o k columns disk book view failure.Memory reads = keeps-all disk book

-- one whose copy is refused
pub left-refused : (file : Option (List ℕ)) (o : Outline) (k columns : ℕ) (old new : DiskState) (book book' : BookData) (l : Loaded)
    → ((passed : Option LimitError) → limit_of_copy l columns (numbered_cluster o k).entries book ≡ passed → (b : List ℕ) → file ≡ Some b
    → columns ≡ length o.table.columns → IsReadOver (source_at b o k) k book passed)
    → (e : CommitError) → LeavesLoaded l columns (numbered_cluster o k).entries old new book book' (Err e)
    → LeavesCluster file o k columns old new book book' (Err (Commit e))
left-refused file o k columns old new book book' l over (commit.RangeTooLarge len most) left =
    record { told = over (limit_in (commit.RangeTooLarge len most)) left.passes; kept = left.kept }
left-refused file o k columns old new book book' l over (commit.FileTooLarge end most) left =
    record { told = over (limit_in (commit.FileTooLarge end most)) left.passes; kept = left.kept }
left-refused file o k columns old new book book' l over commit.TooManyClusters left =
    record { told = over (limit_in commit.TooManyClusters) left.passes; kept = left.kept }
left-refused file o k columns old new book book' l over commit.Memory left = left
left-refused file o k columns old new book book' l over commit.Fault left = left

-- ---- the count of the disk's faults

pub rose-loaded : (l : Loaded) (columns entries : ℕ) (old new : DiskState) (book book' : BookData) (e : CommitError)
    → LeavesLoaded l columns entries old new book book' (Err e) → e ≡ commit.Fault → Rose old.faults new.faults
rose-loaded l columns entries old new book book' (commit.RangeTooLarge len most) left is = absurd (cc is)
rose-loaded l columns entries old new book book' (commit.FileTooLarge end most) left is = absurd (cc is)
rose-loaded l columns entries old new book book' commit.TooManyClusters left is = absurd (cc is)
rose-loaded l columns entries old new book book' commit.Memory left is = absurd (cc is)
rose-loaded l columns entries old new book book' commit.Fault left is = left.fails.rose
