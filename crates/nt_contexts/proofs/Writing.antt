-- What a context that writes what it has gathered has taken.
use Rattle.std.proofs.Common.{◌≡◌, ◌<◌, List, [], ◌∷◌, ◌++◌, length, Result, Ok, Err, refl, sym, ap}
use Rattle.std.proofs.Common.{◌∙◌, subst}
use Rattle.std.proofs.Common.{append_assoc, append-nil, arith}
use Rattle.std.specs.List.{flat_map}
use Rattle.std.proofs.lemmas.Grind.{flat_map-append}
use Rattle.nt_types.specs.TreeData.{TreesData}
use Rattle.nt_outside.specs.Disk.{DiskState}
use Rattle.nt_lists.specs.Chunks.{chunks}
use Rattle.nt_machine.specs.declared.entry.EntryKind.TheVariants as entry
use Rattle.nt_machine.specs.History.{WrittenChunk, entries_of_chunk}
use Rattle.nt_machine.proofs.Dealing.{Wrote-snoc}
use Rattle.nt_machine.proofs.Histories.{AllByRecursion-append}
use Rattle.nt_book.specs.declared.meta.ClusterMeta.{ClusterMeta}
use Rattle.nt_fill.specs.Context.{MayGather, gathered}
use Rattle.nt_fill.specs.Passes.{IsUnpublished, gained}
use Rattle.nt_fill.specs.Flushes.{DiskContext, WritesCluster}
use Rattle.nt_fill.proofs.Gains.{none_published, unpublished_after}
use Rattle.nt_dealing.specs.Written.{IsChunkBlob, CommittedFirst}
use Rattle.nt_contexts.specs.declared.error.ContextError.{ContextError}
use Rattle.nt_contexts.specs.Seats.{DiskPass}
use Rattle.nt_contexts.specs.Filling.{HasCommitted, IsSameContext, IsOpen, HasTaken, Halts}
use Rattle.nt_contexts.specs.Taking.{WritesChunk, WritesFull}
use Rattle.nt_contexts.proofs.Chunking.{chunks-full, chunks-next}
use Rattle.nt_contexts.proofs.Committing.{committed-settled, committed-first}
use Rattle.nt_contexts.proofs.Unwritten.{halts-such}

module _ {D P : Type 0} (state : D → DiskState) where
  -- a context that wrote what it had gathered
  abbrev pub written_by : DiskContext D P → DiskContext D P → WrittenChunk ClusterMeta → DiskContext D P
  written_by old new w = record old {
    pass = gained old.pass new.pass.seen (entries_of_chunk old.staged old.pass.number w);
    pen = new.pen;
    columns = new.columns;
    entries = 0;
  }

  pub is_written : (old new : DiskContext D P) (writes : WritesCluster state old new) → new ≡ written_by old new writes.written
  is_written old new writes =
      writes.now
      ∙ ap (λ (p : DiskPass D). record old { pass = p; pen = new.pen; columns = new.columns; entries = 0 }) writes.gains.now

  -- it published nothing by that
  pub unpublished_written : (old new : DiskContext D P) (writes : WritesCluster state old new) → IsUnpublished old.staged old.pass
      → IsUnpublished old.staged (gained old.pass new.pass.seen (entries_of_chunk old.staged old.pass.number writes.written))
  unpublished_written old new writes before =
      let i = old.pass.number in
      let w = writes.written in
      subst (λ (p : DiskPass D). IsUnpublished old.staged p) writes.gains.now
      (unpublished_after old.staged (entries_of_chunk old.staged i w) old.pass new.pass writes.gains
      (none_published old.staged i w.number w.start w.len w.meta (record { context = i; kind = entry.Settled w.number w.bytes }) refl)
      before)

  -- a chunk more was committed
  pub committed_written : (old new : DiskContext D P) (writes : WritesCluster state old new) (full : List (List TreesData))
      → HasCommitted old.table old.page full old.pass.own
      → HasCommitted old.table old.page (full ++ gathered old ∷ [])
      (old.pass.own ++ entries_of_chunk old.staged old.pass.number writes.written)
  committed_written old new writes full have =
      let w = writes.written in
      committed-settled old.table old.page old.staged full old.pass.own (gathered old) old.pass.number w.number w.start w.len w.meta
      w.bytes have
      (record { columns = writes.blob.blob.columns; gives = writes.blob.blob.gives; meta_is = writes.blob.blob.meta_is }) writes.len

  -- a chunk more was written
  pub took_chunk : (entries : List TreesData) (old new : DiskContext D P) → length (gathered old) ≡ old.cluster
      → HasTaken state entries old → WritesCluster state old new → HasTaken state entries new
  took_chunk entries old new whole taken writes =
      let i = old.pass.number in
      let g : List TreesData = gathered old in
      let after : DiskContext D P = written_by old new writes.written in
      let blob : IsChunkBlob (state old.committer.birth.begun).held old.table old.page g writes.written.start writes.written.bytes
      writes.written.meta =
      record { blob = writes.blob.bytes; is_blob = writes.blob.blob; told = writes.blob.told_are } in
      let joined : entries ≡ flat_map (λ (c : List TreesData). c) (taken.full ++ g ∷ []) ++ [] =
      taken.whole
      ∙ (ap (λ (l : List TreesData). flat_map (λ (c : List TreesData). c) taken.full ++ l) (sym (append-nil g))
      ∙ (sym (flat_map-append (λ (c : List TreesData). c) taken.full (g ∷ []))
      ∙ sym (append-nil (flat_map (λ (c : List TreesData). c) (taken.full ++ g ∷ []))))) in
      let there : HasTaken state entries after = record {
        full = taken.full ++ g ∷ [];
        committed = committed_written old new writes taken.full taken.committed;
        wrote = Wrote-snoc (IsChunkBlob (state old.committer.birth.begun).held old.table old.page) old.staged i taken.full
            old.pass.own g writes.written taken.wrote blob;
        sizes = AllByRecursion-append (λ (c : List TreesData). length c ≡ old.cluster) taken.full (g ∷ []) taken.sizes (whole, tt);
        whole = joined;
      } in
      subst (λ (c : DiskContext D P). HasTaken state entries c) (sym (is_written old new writes)) there

  open_again : (old new : DiskContext D P) → IsUnpublished old.staged old.pass → 0 < old.cluster → WritesCluster state old new
      → IsOpen new
  open_again old new before some writes =
      let there : IsOpen (written_by old new writes.written) =
      record { alive = writes.alive; unpublished = unpublished_written old new writes before; room = some } in
      subst (λ (c : DiskContext D P). IsOpen c) (sym (is_written old new writes)) there

  pub same_context : (old new : DiskContext D P) → WritesCluster state old new → IsSameContext old new
  same_context old new writes = record {
    committer = ap (λ (c : DiskContext D P). c.committer) writes.now;
    table = ap (λ (c : DiskContext D P). c.table) writes.now;
    cluster = ap (λ (c : DiskContext D P). c.cluster) writes.now;
    page = ap (λ (c : DiskContext D P). c.page) writes.now;
    staged = ap (λ (c : DiskContext D P). c.staged) writes.now;
    number = ap (λ (p : DiskPass D). p.number) writes.gains.now;
  }

  -- what is gathered is the next chunk, whatever comes behind it
  next_chunk : (entries rest : List TreesData) (old : DiskContext D P) → 0 < old.cluster → length (gathered old) ≡ old.cluster
      → (taken : HasTaken state entries old)
      → chunks old.cluster (entries ++ rest) ≡ taken.full ++ gathered old ∷ chunks old.cluster rest
  next_chunk entries rest old some whole taken =
      ap (λ (l : List TreesData). chunks old.cluster (l ++ rest)) taken.whole
      ∙ (ap (λ (l : List TreesData). chunks old.cluster l) (append_assoc (flat_map (λ (c : List TreesData). c) taken.full)
      (gathered old) rest)
      ∙ (chunks-full old.cluster some taken.full (gathered old ++ rest) taken.sizes
      ∙ ap (λ (l : List (List TreesData)). taken.full ++ l) (chunks-next old.cluster some (gathered old) rest whole)))

  -- what is gathered is a whole chunk, and was written, or why not
  pub full_written : (entries : List TreesData) (old new : DiskContext D P) (result : Result Unit ContextError) → MayGather old
      → 0 < length (gathered old) → length (gathered old) ≡ old.cluster → HasTaken state entries old → WritesChunk state old new result
      → WritesFull state entries old new result
  full_written entries old new (Ok done) may some whole taken writes = record {
    taken = took_chunk entries old new whole taken writes;
    is_open = open_again old new may.unpublished (omega arith) writes;
    same = same_context old new writes;
  }
  full_written entries old new (Err error) may some whole taken writes = λ rest.
      subst (λ (l : List (List TreesData)). Halts state (λ chunk. length chunk ≡ old.cluster) l old new error)
      (sym (next_chunk entries rest old (omega arith) whole taken))
      (halts-such state (λ chunk. chunk ≡ gathered old) (λ chunk. length chunk ≡ old.cluster)
      (taken.full ++ gathered old ∷ chunks old.cluster rest) old new error
      (λ chunk is. ap (λ (l : List TreesData). length l) is ∙ whole) (writes taken.full (chunks old.cluster rest) taken.committed))

  -- a context that goes on committed the first chunks, whatever comes behind what it took
  pub taken_first : (entries rest : List TreesData) (c : DiskContext D P) → 0 < c.cluster → HasTaken state entries c
      → CommittedFirst c.table c.page (chunks c.cluster (entries ++ rest)) c.pass.own
  taken_first entries rest c some taken =
      let are : chunks c.cluster (entries ++ rest) ≡ taken.full ++ chunks c.cluster (gathered c ++ rest) =
      ap (λ (l : List TreesData). chunks c.cluster (l ++ rest)) taken.whole
      ∙ (ap (λ (l : List TreesData). chunks c.cluster l) (append_assoc (flat_map (λ (c : List TreesData). c) taken.full) (gathered c) rest)
      ∙ chunks-full c.cluster some taken.full (gathered c ++ rest) taken.sizes) in
      subst (λ (l : List (List TreesData)). CommittedFirst c.table c.page l c.pass.own) (sym are)
      (committed-first c.table c.page taken.full c.pass.own taken.committed (chunks c.cluster (gathered c ++ rest)))
