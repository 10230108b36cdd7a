-- What a context has done with the entries that it took.
use Rattle.std.specs.Prelude.{◌≡◌, ℕ, ◌<◌, Bool, List, [], ◌++◌, map, length, Option, Some, IsSome, slice_get}
use Rattle.std.specs.List.{AllByRecursion, flat_map}
use Rattle.nt_types.specs.ShapeData.{MemberData}
use Rattle.nt_types.specs.TreeData.{TreesData}
use Rattle.nt_types.specs.Rules.{AreFields}
use Rattle.nt_grammar.specs.Rows.{Rows}
use Rattle.nt_grammar.specs.Table.{Table}
use Rattle.nt_outside.specs.Disk.{DiskState}
use Rattle.nt_outside.specs.Held.{Held}
use Rattle.nt_lists.specs.Chunks.{chunks}
use Rattle.nt_machine.specs.declared.entry.Entry.{Entry}
use Rattle.nt_machine.specs.Faults.{HasFaults}
use Rattle.nt_machine.specs.History.{Cluster, ranges_of}
use Rattle.nt_book.specs.declared.meta.ClusterMeta.{ClusterMeta}
use Rattle.nt_event.specs.Lines.{LinesState}
use Rattle.nt_fill.specs.Context.{gathered}
use Rattle.nt_fill.specs.Passes.{IsUnpublished}
use Rattle.nt_fill.specs.Flushes.{DiskContext}
use Rattle.nt_commit.specs.Locked.{book_of_birth}
use Rattle.nt_dealing.specs.Limits.{AreKeptOf, NextPasses}
use Rattle.nt_dealing.specs.Written.{WroteChunks, WroteAllChunks, CommittedFirst}
use Rattle.nt_contexts.specs.declared.error.ContextError.{ContextError}
use Rattle.nt_contexts.specs.declared.error.ContextError.TheVariants.{Text, Limit, Outside, Memory}

-- faults stand among the entries of a context
pub record HaveFaults (own : List (Entry ClusterMeta)) : Type 0 where
  pub place : ℕ
  pub entry : Entry ClusterMeta
  pub at : slice_get own place ≡ Some entry
  pub faults : HasFaults entry.kind

-- the ranges of a context are those of these chunks, one after the other
pub record HasCommitted (t : Table) (page : ℕ) (chunks : List (List TreesData)) (own : List (Entry ClusterMeta)) : Type 0 where
  pub kept : AreKeptOf t page chunks (map (λ (c : Cluster ClusterMeta). c.meta) (ranges_of own))
  pub lengths : AllByRecursion (λ (c : Cluster ClusterMeta). c.len ≡ c.meta.len) (ranges_of own)

module _ {D P : Type 0} where
  -- a context for the entries of these fields
  pub record IsFor (fields : List MemberData) (c : DiskContext D P) : Type 0 where
    pub rules : AreFields fields
    pub plain : Bool
    pub rows : Rows fields plain c.table

  -- committer, schema, sizes and number are the same, and clusters are staged where they were
  pub record IsSameContext (old new : DiskContext D P) : Type 0 where
    pub committer : new.committer ≡ old.committer
    pub table : new.table ≡ old.table
    pub cluster : new.cluster ≡ old.cluster
    pub page : new.page ≡ old.page
    pub staged : new.staged ≡ old.staged
    pub number : new.pass.number ≡ old.pass.number

  -- the context is alive, has no whole cluster, and hasn't published
  pub record IsOpen (c : DiskContext D P) : Type 0 where
    pub alive : IsSome c.pen
    pub unpublished : IsUnpublished c.staged c.pass
    pub room : length (gathered c) < c.cluster

  -- the context is alive, has nothing gathered, and hasn't published
  pub record IsEmptied (c : DiskContext D P) : Type 0 where
    pub alive : IsSome c.pen
    pub unpublished : IsUnpublished c.staged c.pass
    pub empty : gathered c ≡ []

  -- the context is open, and has neither read nor written anything
  pub record IsAtStart (lines : LinesState) (c : DiskContext D P) : Type 0 where
    pub is_open : IsOpen c
    pub unused : c.pass.own ≡ []
    pub empty : gathered c ≡ []
    pub first : lines.number ≡ 0

  module _ (state : D → DiskState) where
    -- what the disk held at the beginning
    abbrev pub held_before : DiskContext D P → Option Held
    held_before c = (state c.committer.birth.begun).held

    -- these entries were taken: whole clusters of them were written, and the rest is gathered
    pub record HasTaken (entries : List TreesData) (c : DiskContext D P) : Type 0 where
      pub full : List (List TreesData)
      pub wrote : WroteChunks (held_before c) c.table c.page c.staged c.pass.number full c.pass.own
      pub committed : HasCommitted c.table c.page full c.pass.own
      pub sizes : AllByRecursion (λ (chunk : List TreesData). length chunk ≡ c.cluster) full
      pub whole : entries ≡ flat_map (λ (chunk : List TreesData). chunk) full ++ gathered c

    -- all of these entries were written, in clusters of so many
    pub record HasWrittenChunks (entries : List TreesData) (c : DiskContext D P) : Type 0 where
      pub wrote : WroteChunks (held_before c) c.table c.page c.staged c.pass.number (chunks c.cluster entries) c.pass.own
      pub committed : HasCommitted c.table c.page (chunks c.cluster entries) c.pass.own

    -- and staged clusters are published
    pub record HasWrittenAll (entries : List TreesData) (c : DiskContext D P) : Type 0 where
      pub wrote : WroteAllChunks (held_before c) c.table c.page c.staged c.pass.number (chunks c.cluster entries) c.pass.own
      pub committed : HasCommitted c.table c.page (chunks c.cluster entries) c.pass.own

    -- why a context wrote no more of these chunks: the next, which is such, passes a limit; faults, which stand among its entries; or want
    -- of memory
    abbrev pub IsHalt : (List TreesData → Type 0) → List (List TreesData) → DiskContext D P → ContextError → Type 0
    IsHalt IsSuch all c (Text line kind) = ⊥
    IsHalt IsSuch all c (Limit error) =
        (next : NextPasses (book_of_birth state c.committer.birth []) c.table c.page all c.pass.own c.pass.seen error)
        × IsSuch next.chunk
    IsHalt IsSuch all c Outside = HaveFaults c.pass.own
    IsHalt IsSuch all c Memory = Unit {0}

    -- the context committed the first of these chunks, and no more of them, for this reason
    pub record Halts (IsSuch : List TreesData → Type 0) (all : List (List TreesData)) (old new : DiskContext D P) (error : ContextError)
        : Type 0 where
      pub same : IsSameContext old new
      pub committed : CommittedFirst new.table new.page all new.pass.own
      pub halt : IsHalt IsSuch all new error
