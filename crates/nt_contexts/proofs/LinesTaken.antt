-- Lines that were taken, and what is left of a text behind them.
use Rattle.std.proofs.Common.{◌≡◌, inl, inr, ℕ, ◌<◌, ◌≤◌, false, List, [], ◌∷◌, ◌++◌, length, Option, None, Result, Ok}
use Rattle.std.proofs.Common.{Err, refl, sym}
use Rattle.std.proofs.Common.{ap, ◌∙◌, subst, append-nil, arith}
use Rattle.std.specs.Io.KnownBytes.{IsAtEnd}
use Rattle.nt_types.specs.ShapeData.{MembersData, MemberData}
use Rattle.nt_types.specs.TreeData.{TreesData}
use Rattle.nt_grammar.specs.Rows.{Rows}
use Rattle.nt_grammar.specs.Table.{Table}
use Rattle.nt_outside.specs.Disk.{DiskState}
use Rattle.nt_lists.specs.Chunks.{chunks}
use Rattle.nt_machine.specs.declared.entry.Entry.{Entry}
use Rattle.nt_machine.specs.History.{entries_of_chunk}
use Rattle.nt_machine.proofs.Dealing.{Wrote-snoc}
use Rattle.nt_book.specs.declared.meta.ClusterMeta.{ClusterMeta}
use Rattle.nt_event.specs.Lines.{LinesState}
use Rattle.nt_fill.specs.Context.{MayGather, gathered}
use Rattle.nt_fill.specs.Flushes.{DiskContext}
use Rattle.nt_dealing.specs.EventText.{BadLine}
use Rattle.nt_dealing.specs.Written.{IsChunkBlob, WroteChunks}
use Rattle.nt_contexts.specs.declared.error.ContextError.{ContextError}
use Rattle.nt_contexts.specs.declared.error.ContextError.TheVariants.{Text, Limit, Outside, Memory}
use Rattle.nt_contexts.specs.Filling.{IsFor, IsSameContext, IsOpen, IsEmptied, HasCommitted, HasTaken, HasWrittenChunks, held_before}
use Rattle.nt_contexts.specs.Filling.{Halts}
use Rattle.nt_contexts.specs.Taking.{WritesChunk, WritesRest, PublishesAll, TakesNextLine}
use Rattle.nt_contexts.specs.Running.{GoesOn, HasAll, IsCause, ReadsLine, Ended}
use Rattle.nt_contexts.proofs.Reading.{read-end}
use Rattle.nt_contexts.proofs.BadLines.{read-nothing}
use Rattle.nt_contexts.proofs.Chunking.{chunks-full, chunks-none, chunks-last}
use Rattle.nt_contexts.proofs.Committing.{committed-none}
use Rattle.nt_contexts.proofs.Writing.{written_by, is_written, same_context, committed_written, unpublished_written}
use Rattle.nt_contexts.proofs.Unwritten.{halts-such}
use Rattle.nt_contexts.proofs.TakenLines.{same-trans}
use Rattle.nt_contexts.proofs.Lines.{ends_halted}

module _ {D P : Type 0} (state : D → DiskState) where
  -- nothing was gathered
  pub rest_none : (entries : List TreesData) (c : DiskContext D P) → 0 < c.cluster → length (gathered c) ≡ 0 → HasTaken state entries c
      → HasWrittenChunks state entries c
  rest_none entries c some none taken =
      let are : chunks c.cluster entries ≡ taken.full =
      ap (λ (l : List TreesData). chunks c.cluster l) taken.whole
      ∙ (chunks-full c.cluster some taken.full (gathered c) taken.sizes
      ∙ (ap (λ (l : List (List TreesData)). taken.full ++ l) (chunks-none c.cluster some (gathered c) none) ∙ append-nil taken.full)) in
      record {
        wrote = subst (λ (l : List (List TreesData)). WroteChunks (held_before state c) c.table c.page c.staged c.pass.number l c.pass.own)
            (sym are) taken.wrote;
        committed = subst (λ (l : List (List TreesData)). HasCommitted c.table c.page l c.pass.own) (sym are) taken.committed;
      }

  last_chunk : (entries : List TreesData) (old : DiskContext D P) → 0 < length (gathered old) → length (gathered old) ≤ old.cluster
      → (taken : HasTaken state entries old)
      → chunks old.cluster entries ≡ taken.full ++ gathered old ∷ []
  last_chunk entries old some few taken =
      ap (λ (l : List TreesData). chunks old.cluster l) taken.whole
      ∙ (chunks-full old.cluster (omega arith) taken.full (gathered old) taken.sizes
      ∙ ap (λ (l : List (List TreesData)). taken.full ++ l) (chunks-last old.cluster (omega arith) (gathered old) some few))

  pub rest_written : (entries : List TreesData) (old new : DiskContext D P) (result : Result Unit ContextError) → MayGather old
      → 0 < length (gathered old) → length (gathered old) ≤ old.cluster → HasTaken state entries old → WritesChunk state old new result
      → WritesRest state entries old new result
  rest_written entries old new (Ok done) may some few taken writes =
      let i = old.pass.number in
      let g : List TreesData = gathered old in
      let held = held_before state old in
      let own : List (Entry ClusterMeta) = old.pass.own ++ entries_of_chunk old.staged i writes.written in
      let after : DiskContext D P = written_by state old new writes.written in
      let blob : IsChunkBlob held old.table old.page g writes.written.start writes.written.bytes writes.written.meta =
      record { blob = writes.blob.bytes; is_blob = writes.blob.blob; told = writes.blob.told_are } in
      let wrote : WroteChunks held old.table old.page old.staged i (taken.full ++ g ∷ []) own =
      Wrote-snoc (IsChunkBlob held old.table old.page) old.staged i taken.full old.pass.own g writes.written taken.wrote blob in
      let are = last_chunk entries old some few taken in
      let there : HasWrittenChunks state entries after = record {
        wrote = subst (λ (l : List (List TreesData)). WroteChunks held old.table old.page old.staged i l own) (sym are) wrote;
        committed = subst (λ (l : List (List TreesData)). HasCommitted old.table old.page l own) (sym are)
            (committed_written state old new writes taken.full taken.committed);
      } in
      let empty : IsEmptied after =
      record { alive = writes.alive; unpublished = unpublished_written state old new writes may.unpublished; empty = refl } in (
        subst (λ (c : DiskContext D P). HasWrittenChunks state entries c) (sym (is_written state old new writes)) there,
        subst (λ (c : DiskContext D P). IsEmptied c) (sym (is_written state old new writes)) empty,
        same_context state old new writes,
      )
  rest_written entries old new (Err error) may some few taken writes =
      subst (λ (l : List (List TreesData)). Halts state (λ chunk. Unit {0}) l old new error) (sym (last_chunk entries old some few taken))
      (halts-such state (λ chunk. chunk ≡ gathered old) (λ chunk. Unit {0}) (taken.full ++ gathered old ∷ []) old new error (λ chunk is. tt)
      (writes taken.full [] taken.committed))

module _ {D P : Type 0} (state : D → DiskState) (F : MembersData) (text : Option (List ℕ)) (start : DiskContext D P) where
  -- no line was taken yet
  pub begun : (lines : LinesState) → lines.left ≡ text → lines.number ≡ 0 → IsOpen start → start.pass.own ≡ [] → gathered start ≡ []
      → GoesOn state F text start start lines
  begun lines is none is_open own empty = record {
    entries = [];
    read = read-nothing F text lines is none;
    taken = record {
      full = [];
      wrote = record { writes = []; are = own; blobs = tt };
      committed = subst (λ (l : List (Entry ClusterMeta)). HasCommitted start.table start.page [] l) (sym own)
          (committed-none start.table start.page);
      sizes = tt;
      whole = sym empty;
    };
    is_open = is_open;
    same = record { committer = refl; table = refl; cluster = refl; page = refl; staged = refl; number = refl };
  }

  -- all lines were taken, and what was gathered was not written
  pub ended_rest : (old new : DiskContext D P) (was is : LinesState) (error : ContextError) (all : HasAll state F text start old)
      → WritesRest state all.entries old new (Err error) → Ended state F text start was is new (Err error)
  ended_rest old new was is error all h =
      ends_halted state F text start (λ chunk. Unit {0}) old new was is error all.entries None (λ chunk any. inr refl) all.same all.read h

  -- it was written, and staged clusters were published, or why not
  pub ended_all : (old mid new : DiskContext D P) (was is : LinesState) (result : Result Unit ContextError)
      → (all : HasAll state F text start old) → IsSameContext old mid → PublishesAll state all.entries mid new result
      → Ended state F text start was is new result
  ended_all old mid new was is (Ok done) all same h = record {
    entries = all.entries;
    read = all.read;
    written = h.0;
    same = same-trans start mid new (same-trans start old mid all.same same) h.1;
  }
  ended_all old mid new was is (Err error) all same h =
      ends_halted state F text start (λ chunk. Unit {0}) mid new was is error all.entries None (λ chunk any. inr refl)
      (same-trans start old mid all.same same) all.read h

  earlier : (all : List (List TreesData)) (bad : Option BadLine) (c : DiskContext D P) (was mid is : LinesState) (error : ContextError)
      → was.faults ≤ mid.faults
      → IsCause state all bad mid is c error → IsCause state all bad was is c error
  earlier all bad c was mid is (Text number kind) later h = h
  earlier all bad c was mid is (Limit error) later h = h
  earlier all bad c was mid is Outside later (inl rose) = inl (omega (arith, rose))
  earlier all bad c was mid is Outside later (inr faults) = inr faults
  earlier all bad c was mid is Memory later h = tt

  -- a line was not taken
  pub ended_line : (c : DiskContext D P) (was mid is : LinesState) (error : ContextError) → was.faults ≤ mid.faults
      → ReadsLine state F text start mid is c (Err error) → Ended state F text start was is c (Err error)
  ended_line c was mid is error later h = record {
    entries = h.entries;
    bad = h.bad;
    read = h.read;
    same = h.same;
    committed = h.committed;
    cause = earlier (chunks c.cluster h.entries) h.bad c was mid is error later h.cause;
  }

  -- the schema is that of the fields still
  pub still_for : (fields : List MemberData) (c : DiskContext D P) → IsSameContext start c → IsFor fields start → IsFor fields c
  still_for fields c same is = record {
    rules = is.rules;
    plain = is.plain;
    rows = subst (λ (t : Table). Rows fields is.plain t)
        (sym same.table) is.rows;
  }

  -- there is no line
  pub all_given : (c : DiskContext D P) (was is : LinesState) → GoesOn state F text start c was → IsAtEnd was.left
      → HasAll state F text start c
  all_given c was is on end = record {
    entries = on.entries;
    read = read-end F text on.entries was on.read end;
    taken = on.taken;
    is_open = on.is_open;
    same = on.same;
  }

  -- there was no next line
  pub none_next : (old new : DiskContext D P) (was is : LinesState) → (on : GoesOn state F text start old was)
      → TakesNextLine state F on.entries was is old new (Ok false) → HasAll state F text start new
  none_next old new was is on none =
      subst (λ (c : DiskContext D P). HasAll state F text start c) (sym none.1) (all_given old was is on none.0.was)
