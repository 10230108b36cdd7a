-- What the calls of a sequential writer do to it.
use Rattle.std.specs.Prelude.{◌≡◌, ◌≢◌, ◌<◌, ◌≤◌, false, true, List, [], ◌∷◌, ◌++◌, map, length, Some, None, Result, Ok, Err, OnOk, IsErrOf}
use Rattle.nt_types.specs.ShapeData.{MemberData}
use Rattle.nt_types.specs.TreeData.{TreesData}
use Rattle.nt_outside.specs.Disk.{DiskState}
use Rattle.nt_grammar.specs.Added.{Added}
use Rattle.nt_schema.specs.Extending.{refused}
use Rattle.nt_schema.specs.declared.extend_error.ExtendError.{ExtendError}
use Rattle.nt_schema.specs.declared.extend_error.ExtendError.TheVariants.{Repeated, TooMany, Memory}
use Rattle.nt_book.specs.declared.params.Params.{Params}
use Rattle.nt_book.specs.Books.{book_clusters, book_end, entry_count}
use Rattle.nt_book.specs.Limiting.{limit_error_with}
use Rattle.nt_pages.specs.declared.image.ClusterImage.{ClusterImage}
use Rattle.nt_pages.specs.Image.{image}
use Rattle.nt_pages.specs.Metas.{cluster_meta}
use Rattle.nt_layout.specs.Laid.{Gives}
use Rattle.nt_commit.specs.declared.error.CommitError.{CommitError}
use Rattle.nt_commit.specs.declared.error.CommitError.TheVariants as commit
use Rattle.nt_commit.specs.Appending.{due_bytes}
use Rattle.nt_commit.specs.Claims.{limit_answered}
use Rattle.nt_append.specs.Appending.{FailsOnDisk, GainsCluster, with_due_list}
use Rattle.nt_close.specs.Beginning.{IsBegun, IsUntouched}
use Rattle.nt_finished.specs.LeftOut.{filled}
use Rattle.nt_seq.specs.Writer.{SeqState, gathered_by}
use Rattle.nt_seq.specs.Written.{HasWritten, zero_behind}

-- the image of what a writer has gathered
abbrev pub gathered_image : {D : Type 0} → SeqState D → ClusterImage
gathered_image w = record {
  bytes = image w.params.page w.columns;
  meta = cluster_meta w.params.page 0 (length (gathered_by w)) w.columns;
}

module _ {D : Type 0} (state : D → DiskState) where
  -- the file of these fields is begun, with the schema as it is; no cluster is written, and no entry gathered
  pub record BeginsFile (ps : List MemberData) (p : Params) (disk : D) (new : SeqState D) : Type 0 where
    pub begun : IsBegun ps p (state disk) (state new.disk) new.book new.table
    pub written : HasWritten state new []
    pub params : new.params ≡ p
    pub given : new.given ≡ disk
    pub first : new.begun ≡ new.table
    pub none : gathered_by new ≡ []
    pub alive : new.alive ≡ true

  -- the gathered entries are the next cluster, of which this is kept in the book behind the page list that was due, and none is gathered
  -- now
  pub record WritesNext (old new : SeqState D) : Type 0 where
    pub gives : Gives old.table old.columns (gathered_by old)
    pub gains : GainsCluster (cluster_meta old.params.page 0 (length (gathered_by old)) old.columns) (with_due_list old.book) new.book
    pub written : (clusters : List (List TreesData)) → HasWritten state old clusters
        → HasWritten state new (clusters ++ gathered_by old ∷ [])
    pub none : gathered_by new ≡ []
    pub later : (state old.disk).faults ≤ (state new.disk).faults
    pub now : new ≡ record old { disk = new.disk; book = new.book; columns = new.columns; entries = 0 }

  -- what is written and what is gathered are as before, and so is the disk but for its memory
  pub record StaysAsItWas (old new : SeqState D) : Type 0 where
    pub untouched : IsUntouched (state old.disk) (state new.disk)
    pub book : new.book ≡ record old.book { spare = new.book.spare }
    pub written : (clusters : List (List TreesData)) → HasWritten state old clusters → HasWritten state new clusters
    pub now : new ≡ record old { disk = new.disk; book = new.book }

  -- the disk failed in the append of the gathered entries' image, or of the page list that was due; the book has no cluster more, and the
  -- writer isn't alive
  pub record FailsToAppend (old new : SeqState D) : Type 0 where
    pub fails : FailsOnDisk (gathered_image old) (state old.disk) (state new.disk) old.book new.book
    pub now : new ≡ record old { disk = new.disk; book = new.book; alive = false }

  -- refused, the writer stays as it was; after a fault it isn't alive
  pub record RefusesNext (old new : SeqState D) (result : Result Unit CommitError) : Type 0 where
    pub kept : (e : CommitError) → result ≡ Err e → e ≢ commit.Fault → StaysAsItWas old new
    pub fault : IsErrOf result commit.Fault → FailsToAppend old new

  -- a field was added behind all entries, which have its zero
  pub record GainsField (field : MemberData) (old new : SeqState D) : Type 0 where
    pub added : Added old.table field old.params.plain (entry_count (book_clusters old.book)) new.table
    pub written : (clusters : List (List TreesData)) → HasWritten state old clusters
        → HasWritten state new (map (filled (zero_behind field)) clusters)
    pub clusters : book_clusters new.book ≡ book_clusters old.book
    pub none : gathered_by new ≡ []
    pub now : new ≡ record old { book = new.book; table = new.table; columns = new.columns }

  -- what is left of a writer whose schema was to get a field
  abbrev pub ExtendsWriter : MemberData → SeqState D → SeqState D → Result Unit ExtendError → Type 0
  ExtendsWriter field old new (Ok done) = (refused old.table field ≡ None) × GainsField field old new
  ExtendsWriter field old new (Err Repeated) = (refused old.table field ≡ Some Repeated) × (new ≡ old)
  ExtendsWriter field old new (Err TooMany) = (refused old.table field ≡ Some TooMany) × (new ≡ old)
  ExtendsWriter field old new (Err Memory) =
      (refused old.table field ≡ None) × (new.given ≡ old.given) × (new.disk ≡ old.disk) × (new.begun ≡ old.begun) × (new.alive ≡ false)

module _ {D : Type 0} where
  -- the answer names the limit of its book that the cluster of the gathered entries passes, or the page list that is due, or none
  pub record NamesPassed (w : SeqState D) (result : Result Unit CommitError) : Type 0 where
    pub gives : Gives w.table w.columns (gathered_by w)
    pub limits_are : w.book.limits ≡ w.params.limits
    pub names : limit_error_with w.book.limits (book_end w.book) (length (book_clusters w.book)) (length (image w.params.page w.columns))
        (length (due_bytes w.book))
        ≡ limit_answered result

-- what a flush does to a writer: with nothing gathered nothing, and else the next cluster, unless a limit is passed or the flush is refused
pub record FlushesNext {D : Type 0} (state : D → DiskState) (old new : SeqState D) (result : Result Unit CommitError) : Type 0 where
  pub nothing : gathered_by old ≡ [] → (result ≡ Ok tt) × (new ≡ old)
  pub ok : 0 < length (gathered_by old) → OnOk result (WritesNext state old new)
  pub limits : 0 < length (gathered_by old) → result ≢ Err commit.Memory → NamesPassed old result
  pub refused : RefusesNext state old new result
