-- What a flush does to a context.
use Rattle.std.specs.Prelude.{ℕ, ◌≡◌, ◌≢◌, List, [], length, Option, Some, IsSome, Result, Err, IsErrOf}
use Rattle.nt_types.specs.TreeData.{TreesData}
use Rattle.nt_grammar.specs.Table.{Table}
use Rattle.nt_outside.specs.Held.{Held}
use Rattle.nt_outside.specs.Disk.{DiskState}
use Rattle.nt_machine.specs.declared.entry.Entry.{Entry}
use Rattle.nt_machine.specs.History.{WrittenChunk, entries_of_chunk}
use Rattle.nt_book.specs.declared.meta.ClusterMeta.{ClusterMeta}
use Rattle.nt_column.specs.Column.{Column}
use Rattle.nt_pages.specs.Image.{image}
use Rattle.nt_pages.specs.Metas.{cluster_meta}
use Rattle.nt_logged.specs.Steps.{bytes_where_told}
use Rattle.nt_commit.specs.declared.locked.Birth.{Birth}
use Rattle.nt_commit.specs.declared.error.CommitError.{CommitError}
use Rattle.nt_commit.specs.declared.error.CommitError.TheVariants.{Fault}
use Rattle.nt_layout.specs.Laid.{Gives, IsBlobOfEntries}
use Rattle.nt_fill.specs.Context.{FillState, gathered}
use Rattle.nt_fill.specs.Passes.{Gains, FailsToWrite, IsUnpublished, NamesLimit}

-- a context over a disk
abbrev pub DiskContext : Type 0 → Type 0 → Type 0
DiskContext D P = FillState (Entry ClusterMeta) (Birth D) P

-- bytes and metadata are the blob of these entries at a place; the bytes are told where the disk told what it held at the beginning
pub record IsWrittenAs (held : Option Held) (t : Table) (page : ℕ) (entries : List TreesData) (place : ℕ) (told : Option (List ℕ))
    (meta : ClusterMeta) : Type 0 where
  pub bytes : List ℕ
  pub blob : IsBlobOfEntries t page entries place bytes meta
  pub told_are : told ≡ bytes_where_told held (Some bytes)

module _ {D P : Type 0} where
  -- the context is as before, but that its pass has seen more
  pub record KeepsEntries (old new : DiskContext D P) : Type 0 where
    pub gains : Gains [] old.pass new.pass
    pub now : new ≡ record old { pass = new.pass }

  -- the disk or the pen failed: the pen is gone after its own fault, with a range that was reserved as the cluster of the gathered
  -- entries, and else the context is as before
  pub record FailsToFlush (old new : DiskContext D P) : Type 0 where
    pub columns : List Column
    pub gives : Gives old.table columns (gathered old)
    pub fails : FailsToWrite old.staged (cluster_meta old.page old.pass.number (length (gathered old)) columns) old.pass new.pass
        old.pen new.pen
    pub now : new ≡ record old { pass = new.pass; pen = new.pen }

  -- refused, the context keeps what it has gathered; after a fault it failed to write that. A flush publishes nothing
  pub record RefusesToFlush (old new : DiskContext D P) (result : Result Unit CommitError) : Type 0 where
    pub kept : (e : CommitError) → result ≡ Err e → e ≢ Fault → KeepsEntries old new
    pub fault : IsErrOf result Fault → FailsToFlush old new
    pub unpublished : IsUnpublished new.staged new.pass

  module _ (state : D → DiskState) where
    -- the gathered entries were written as one cluster, and none is gathered now
    pub record WritesCluster (old new : DiskContext D P) : Type 0 where
      pub written : WrittenChunk ClusterMeta
      pub len : written.len ≡ written.meta.len
      -- it is kept as one of this context
      pub context : written.meta.context ≡ old.pass.number
      pub blob : IsWrittenAs (state old.committer.birth.begun).held old.table old.page (gathered old) written.start
          written.bytes written.meta
      pub gains : Gains (entries_of_chunk old.staged old.pass.number written) old.pass new.pass
      pub alive : IsSome new.pen
      pub now : new ≡ record old { pass = new.pass; pen = new.pen; columns = new.columns; entries = 0 }

    -- the answer names the limit that the blob of the gathered entries passes behind a history that the pass has now seen, and no more than
    -- that, or none
    pub record KeepsLimits (old new : DiskContext D P) (result : Result Unit CommitError) : Type 0 where
      pub columns : List Column
      pub gives : Gives old.table columns (gathered old)
      pub names : NamesLimit state old.committer (length (image old.page columns)) old.pass new.pass result
