-- What is left of one cluster that is copied into a file, and of all those of one file.
use Rattle.std.specs.Prelude.{ℕ, ◌≡◌, ◌+◌, ◌≤◌, ◌++◌, List, IsErrOf, OnOk, length, replicate, drop}
use Rattle.std.specs.Prelude.{take, false, Option, Some, None, Result, Ok, Err}
use Rattle.nt_num.specs.declared.fault.ReadError.{ReadError}
use Rattle.nt_types.specs.TreeData.{TreesData}
use Rattle.nt_outside.specs.Faults.{Rose}
use Rattle.nt_outside.specs.File.{FileState}
use Rattle.nt_outside.specs.Disk.{DiskState}
use Rattle.nt_grammar.specs.Table.{Table}
use Rattle.nt_book.specs.declared.limits.LimitError.{LimitError}
use Rattle.nt_book.specs.declared.limits.LimitError.TheVariants as limit
use Rattle.nt_book.specs.declared.params.Params.{Params}
use Rattle.nt_book.specs.Books.{BookData, book_ranges, book_clusters, book_end}
use Rattle.nt_book.specs.Limiting.{limit_error_with}
use Rattle.nt_commit.specs.declared.error.CommitError.{CommitError}
use Rattle.nt_commit.specs.declared.error.CommitError.TheVariants as commit
use Rattle.nt_commit.specs.Appending.{due_bytes}
use Rattle.nt_commit.specs.Claims.{limit_in}
use Rattle.nt_pages.specs.declared.image.ClusterImage.{ClusterImage}
use Rattle.nt_pages.specs.Image.{key_room}
use Rattle.nt_tfile.specs.declared.failure.ReadFailure.TheVariants as failure
use Rattle.nt_file_meaning.specs.Clusters.{cluster_of}
use Rattle.nt_file_meaning.specs.Outlines.{Outline}
use Rattle.nt_reader.specs.Outlines.{numbered_cluster}
use Rattle.nt_view.specs.Loaded.{Loaded, AreLoadable}
use Rattle.nt_copied.specs.Copies.{Source, ReadAlike, NoneDeferred, IsCopyOf}
use Rattle.nt_copied.specs.Stored.{stored_payload, stored_meta}
use Rattle.nt_copying.specs.Copied.{HaveTheirSums, all_loaded, copied_columns}
use Rattle.nt_append.specs.Appending.{FailsOnDisk, KeepsDiskAndBook, range_behind, settled_cluster, with_due_list}
use Rattle.nt_merge_limits.specs.Limits.{kept_metas}
use Rattle.nt_seq.specs.Beside.{AppendsNext}
use Rattle.nt_merge.specs.declared.copy_error.CopyError.{CopyError}
use Rattle.nt_merge.specs.declared.copy_error.CopyError.TheVariants.{Read, Commit}
use Rattle.nt_merge.specs.Fronts.{lists_in_front}
use Rattle.nt_merge.specs.Merging.{Numbered, numbered_from, readings, copied_meta, copied_metas, refused_behind, first_refusal}
use Rattle.nt_merge.specs.Merging.{IsFirstMergeFault, IsFirstMergeLimit, IsMerging, HasCopies, IsLeftUnfinished}

-- a loaded cluster can be copied behind the clusters of a book of so many columns, which ends where the disk does and isn't staged
pub record MayCopy (l : Loaded) (columns : ℕ) (disk : DiskState) (book : BookData) : Type 0 where
  pub loadable : AreLoadable l.pages l.zeros
  pub columns_are : columns ≡ length book.firsts
  pub not_staged : book.staged ≡ false
  pub end : disk.end ≡ book_end book

-- the image of the pages of a loaded cluster with so many entries, and what is kept of it
pub record IsCopyImage (l : Loaded) (columns entries : ℕ) (image : ClusterImage) : Type 0 where
  pub bytes_are : HaveTheirSums (all_loaded l) → image.bytes ≡ replicate key_room 0 ++ stored_payload (copied_columns l 0 columns)
  pub meta_is : image.meta ≡ stored_meta 0 entries (copied_columns l 0 columns)

-- the limit that such an image passes behind the clusters of a book, or the page list that is due
abbrev pub limit_of_copy : Loaded → ℕ → ℕ → BookData → Option LimitError
limit_of_copy l columns entries book =
    limit_error_with book.limits (book_end book) (length (book_ranges book)) (stored_meta 0 entries (copied_columns l 0 columns)).len
    (length (due_bytes book))

-- such an image stands behind the others, behind the page list that was due, and passes no limit
pub record CopiesLoaded (l : Loaded) (columns entries : ℕ) (old new : DiskState) (book book' : BookData) : Type 0 where
  pub fits : limit_of_copy l columns entries book ≡ None
  pub image : ClusterImage
  pub image_is : IsCopyImage l columns entries image
  pub next : AppendsNext image old new book book'

-- the disk failed in the append of such an image, or of the page list that was due
pub record CutsLoaded (old new : DiskState) (book book' : BookData) : Type 0 where
  pub image : ClusterImage
  pub fails : FailsOnDisk image old new book book'

-- such an image passes a limit, and nothing was written
pub record RefusesLoaded (l : Loaded) (columns entries : ℕ) (old new : DiskState) (book book' : BookData) (e : CommitError) : Type 0 where
  pub passes : limit_of_copy l columns entries book ≡ limit_in e
  pub kept : KeepsDiskAndBook old new book book'

-- what is left of a loaded cluster that is copied, by the answer
abbrev pub LeavesLoaded : Loaded → ℕ → ℕ → DiskState → DiskState → BookData → BookData → Result Unit CommitError → Type 0
LeavesLoaded l columns entries old new book book' (Ok done) = CopiesLoaded l columns entries old new book book'
LeavesLoaded l columns entries old new book book' (Err commit.Memory) = KeepsDiskAndBook old new book book'
LeavesLoaded l columns entries old new book book' (Err commit.Fault) = CutsLoaded old new book book'
LeavesLoaded l columns entries old new book book' (Err (commit.RangeTooLarge len most)) =
    RefusesLoaded l columns entries old new book book' (commit.RangeTooLarge len most)
LeavesLoaded l columns entries old new book book' (Err (commit.FileTooLarge end most)) =
    RefusesLoaded l columns entries old new book book' (commit.FileTooLarge end most)
LeavesLoaded l columns entries old new book book' (Err commit.TooManyClusters) =
    RefusesLoaded l columns entries old new book book' commit.TooManyClusters

-- the cluster of this number of a file with these bytes and this outline
abbrev pub source_at : List ℕ → Outline → ℕ → Source
source_at b o k = record { file = b; table = o.table; list = numbered_cluster o k }

-- it was read, and an image behind a book is its copy
pub record IsReadCopy (s : Source) (k : ℕ) (image : ClusterImage) (book : BookData) : Type 0 where
  pub entries : List TreesData
  pub read : cluster_of s.file s.table k s.list ≡ Ok entries
  pub meta_is : image.meta ≡ copied_meta s
  pub copy : (t : Table) → ReadAlike t s.table → NoneDeferred s.table.columns
      → IsCopyOf t s entries (settled_cluster (length (book_clusters book)) (book_end (with_due_list book)) image.meta)
      (range_behind image book)

-- it was read, and its copy behind a book passes a limit, or the page list that is due
pub record IsReadOver (s : Source) (k : ℕ) (book : BookData) (passed : Option LimitError) : Type 0 where
  pub entries : List TreesData
  pub read : cluster_of s.file s.table k s.list ≡ Ok entries
  pub passes : limit_error_with book.limits (book_end book) (length (book_ranges book)) (copied_meta s).len (length (due_bytes book))
      ≡ passed

-- an image stands behind the others, behind the page list that was due, and passes no limit: a copy of the cluster, where the file tells
-- its bytes
pub record CopiesCluster (file : Option (List ℕ)) (o : Outline) (k columns : ℕ) (old new : DiskState) (book book' : BookData) : Type 0 where
  pub image : ClusterImage
  pub fits : limit_error_with book.limits (book_end book) (length (book_ranges book)) image.meta.len (length (due_bytes book)) ≡ None
  pub next : AppendsNext image old new book book'
  pub told : (b : List ℕ) → file ≡ Some b → columns ≡ length o.table.columns → IsReadCopy (source_at b o k) k image book

-- nothing was written, since a limit was passed: by a copy of the cluster, where the file tells its bytes
pub record PassesByCopy (file : Option (List ℕ)) (o : Outline) (k columns : ℕ) (old new : DiskState) (book book' : BookData)
    (e : CommitError) : Type 0 where
  pub told : (b : List ℕ) → file ≡ Some b → columns ≡ length o.table.columns → IsReadOver (source_at b o k) k book (limit_in e)
  pub kept : KeepsDiskAndBook old new book book'

-- a cluster has this first fault, and nothing was written
pub record HasClusterFault (file : Option (List ℕ)) (o : Outline) (k : ℕ) (old new : DiskState) (book book' : BookData)
    (e : ReadError) : Type 0 where
  pub read : (b : List ℕ) → file ≡ Some b → cluster_of b o.table k (numbered_cluster o k) ≡ Err e
  pub kept : KeepsDiskAndBook old new book book'

-- what is left of a cluster that is copied, by the answer
abbrev pub LeavesCluster : Option (List ℕ) → Outline → ℕ → ℕ → DiskState → DiskState → BookData → BookData → Result Unit CopyError → Type 0
LeavesCluster file o k columns old new book book' (Ok done) = CopiesCluster file o k columns old new book book'
LeavesCluster file o k columns old new book book' (Err (Read (failure.Defect e))) = HasClusterFault file o k old new book book' e
LeavesCluster file o k columns old new book book' (Err (Read failure.Fault)) = KeepsDiskAndBook old new book book'
LeavesCluster file o k columns old new book book' (Err (Read failure.Memory)) = KeepsDiskAndBook old new book book'
LeavesCluster file o k columns old new book book' (Err (Commit commit.Memory)) = KeepsDiskAndBook old new book book'
LeavesCluster file o k columns old new book book' (Err (Commit commit.Fault)) = CutsLoaded old new book book'
LeavesCluster file o k columns old new book book' (Err (Commit (commit.RangeTooLarge len most))) =
    PassesByCopy file o k columns old new book book' (commit.RangeTooLarge len most)
LeavesCluster file o k columns old new book book' (Err (Commit (commit.FileTooLarge end most))) =
    PassesByCopy file o k columns old new book book' (commit.FileTooLarge end most)
LeavesCluster file o k columns old new book book' (Err (Commit commit.TooManyClusters)) =
    PassesByCopy file o k columns old new book book' commit.TooManyClusters

-- a file keeps its bytes; it is blamed only where its count rose, and the disk only where its own did
pub record ServesCopy (old new : FileState) (disk disk' : DiskState) (result : Result Unit CopyError) : Type 0 where
  pub same : new.bytes ≡ old.bytes
  pub later : old.faults ≤ new.faults
  pub fault : IsErrOf result (Read failure.Fault) → Rose old.faults new.faults
  pub disk_later : OnOk result (disk.faults ≤ disk'.faults)
  pub disk_fault : IsErrOf result (Commit commit.Fault) → Rose disk.faults disk'.faults

-- ---- clusters that are copied one after the other

-- the first of these clusters were copied, all of them read, with the page lists among them, and nothing of them was refused
pub record HasMerged (t : Table) (p : Params) (given disk : DiskState) (book : BookData) (ns : List Numbered) (k : ℕ) : Type 0 where
  pub lists : List (List TreesData)
  pub read : readings (take k ns) ≡ Ok lists
  pub copies : HasCopies t p given disk book (take k ns) lists
  pub listed : length book.lists ≡ lists_in_front p.group (length (kept_metas book))
  pub reach : first_refusal t p ns ≡ refused_behind t p (copied_metas (take k ns)) (drop k ns)

-- from a place on these clusters are those of a file of this number with these bytes and this outline, and others
pub record AreOfFile (file : ℕ) (b : List ℕ) (o : Outline) (ns : List Numbered) (at : ℕ) : Type 0 where
  pub after : List Numbered
  pub is : drop at ns ≡ numbered_from file 0 b o.table o.clusters ++ after

-- the clusters of a schema can be copied to a file of another
pub record IsJoinable (t u : Table) : Type 0 where
  pub alike : ReadAlike t u
  pub none_deferred : NoneDeferred u.columns
  pub as_many : length u.columns ≡ length t.columns

-- what is told of clusters up to a place, by the answer: they are copied; or what is refused first, which is the first fault, or a limit
-- that the file of those before it passes
abbrev pub ToldUpTo : ℕ → Table → Params → DiskState → DiskState → BookData → List Numbered → ℕ → Result Unit CopyError → Type 0
ToldUpTo file t p given new book ns at (Ok done) = HasMerged t p given new book ns at
ToldUpTo file t p given new book ns at (Err (Read (failure.Defect e))) = IsFirstMergeFault t p ns file e
ToldUpTo file t p given new book ns at (Err (Read failure.Fault)) = Unit {0}
ToldUpTo file t p given new book ns at (Err (Read failure.Memory)) = Unit {0}
ToldUpTo file t p given new book ns at (Err (Commit commit.Memory)) = Unit {0}
ToldUpTo file t p given new book ns at (Err (Commit commit.Fault)) = Unit {0}
ToldUpTo file t p given new book ns at (Err (Commit (commit.RangeTooLarge len most))) =
    IsFirstMergeLimit t p ns (limit.RangeTooLarge len most)
ToldUpTo file t p given new book ns at (Err (Commit (commit.FileTooLarge end most))) =
    IsFirstMergeLimit t p ns (limit.FileTooLarge end most)
ToldUpTo file t p given new book ns at (Err (Commit commit.TooManyClusters)) =
    IsFirstMergeLimit t p ns limit.TooManyClusters

-- the file that clusters are copied into can go on, or isn't finished
abbrev pub CopyGoesOn : Table → Params → DiskState → DiskState → BookData → Result Unit CopyError → Type 0
CopyGoesOn t p given new book (Ok done) = IsMerging t p given new book
CopyGoesOn t p given new book (Err e) = IsLeftUnfinished given new

-- a book of so many columns ends where the disk does, and isn't staged
pub record MayCopyInto (columns : ℕ) (disk : DiskState) (book : BookData) : Type 0 where
  pub columns_are : columns ≡ length book.firsts
  pub not_staged : book.staged ≡ false
  pub end : disk.end ≡ book_end book

-- where a file tells its bytes, its clusters go on behind those of the files before it
abbrev pub CopiesFile : Option (List ℕ) → Outline → DiskState → DiskState → BookData → BookData → Result Unit CopyError → Type 0
CopiesFile bytes o old new book book' result =
    (file : ℕ) (t : Table) (p : Params) (given : DiskState) (ns : List Numbered) (at : ℕ) (b : List ℕ) → bytes ≡ Some b
    → AreOfFile file b o ns at → IsJoinable t o.table → IsMerging t p given old book → HasMerged t p given old book ns at
    → ToldUpTo file t p given new book' ns (at + length o.clusters) result
