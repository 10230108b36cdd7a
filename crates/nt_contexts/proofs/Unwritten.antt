-- Why a context did not write what it had gathered.
use Rattle.std.proofs.Common.{◌≡◌, ◌≢◌, inl, inr, ℕ, List, [], ◌∷◌, ◌++◌, length, Option, Some, None, Result, Err, refl, sym, ap}
use Rattle.std.proofs.Common.{◌∙◌, subst}
use Rattle.std.proofs.Common.{append_assoc, append-nil}
use Rattle.nt_types.specs.TreeData.{TreesData}
use Rattle.nt_outside.specs.Disk.{DiskState}
use Rattle.nt_machine.specs.declared.entry.Entry.{Entry}
use Rattle.nt_machine.specs.History.{reserving}
use Rattle.nt_book.specs.declared.meta.ClusterMeta.{ClusterMeta}
use Rattle.nt_book.specs.declared.limits.LimitError.{LimitError}
use Rattle.nt_book.specs.declared.limits.LimitError.TheVariants as limit
use Rattle.nt_book.specs.Entries.{faulted_entry, spoiled_entry}
use Rattle.nt_pages.specs.Metas.{cluster_meta}
use Rattle.nt_commit.specs.declared.error.CommitError.{CommitError}
use Rattle.nt_commit.specs.declared.error.CommitError.TheVariants as commit
use Rattle.nt_commit.specs.Claims.{limit_answered, limit_in}
use Rattle.nt_fill.specs.Context.{gathered}
use Rattle.nt_fill.specs.Passes.{Gains, FailsToWrite}
use Rattle.nt_fill.specs.Flushes.{DiskContext, KeepsEntries, FailsToFlush, KeepsLimits}
use Rattle.nt_dealing.specs.Limits.{IsKeptOf}
use Rattle.nt_dealing.specs.Written.{CommittedFirst}
use Rattle.nt_contexts.specs.declared.error.ContextError.{ContextError}
use Rattle.nt_contexts.specs.declared.error.ContextError.TheVariants.{Text, Limit, Outside, Memory}
use Rattle.nt_contexts.specs.Running.{context_error}
use Rattle.nt_contexts.specs.Seats.{DiskPass}
use Rattle.nt_contexts.specs.Filling.{HaveFaults, HasCommitted, IsHalt, Halts}
use Rattle.nt_contexts.specs.Taking.{WritesChunk}
use Rattle.nt_contexts.proofs.Chunking.{slice_get-seam}
use Rattle.nt_contexts.proofs.Committing.{committed-faulted, committed-spoiled, committed-first, committed-next}

-- a flush that was refused
abbrev pub refusal : CommitError → Result (Unit {0}) CommitError
refusal e = Err e

-- what names a limit isn't want of memory
apart : (e : CommitError) (error : LimitError) → limit_in e ≡ Some error → refusal e ≢ refusal commit.Memory
apart e error is = λ same.
    let none : ◌≡◌ {A = Option LimitError} None (Some error) =
    sym (ap (λ (r : Result (Unit {0}) CommitError). limit_answered r) same) ∙ is in
    absurd (cc none)

-- what a fault added ends with an entry that tells it
told_last : (own : List (Entry ClusterMeta)) (i faults : ℕ) → HaveFaults (own ++ faulted_entry i faults ∷ [])
told_last own i faults = record {
  place = length own;
  entry = faulted_entry i faults;
  at = slice_get-seam own []
      (faulted_entry i faults);
  faults = tt;
}

told_spoiled : (own : List (Entry ClusterMeta)) (first : Entry ClusterMeta) (i n faults : ℕ)
    → HaveFaults (own ++ first ∷ spoiled_entry i n faults ∷ [])
told_spoiled own first i n faults =
    let last : Entry ClusterMeta = spoiled_entry i n faults in
    subst (λ (l : List (Entry ClusterMeta)). HaveFaults l) (append_assoc own (first ∷ []) (last ∷ []))
    (record { place = length (own ++ first ∷ []); entry = last; at = slice_get-seam (own ++ first ∷ []) [] last; faults = tt })

module _ {D P : Type 0} (state : D → DiskState) where
  -- what a chunk is that wasn't written, it is also otherwise
  module _ (IsSuch IsOther : List TreesData → Type 0) (all : List (List TreesData)) where
    halt-such : (c : DiskContext D P) (error : ContextError) → ((chunk : List TreesData) → IsSuch chunk → IsOther chunk)
        → IsHalt state IsSuch all c error → IsHalt state IsOther all c error
    halt-such c (Text line kind) other h = absurd h
    halt-such c (Limit error) other h = (h.0, other h.0.chunk h.1)
    halt-such c Outside other h = h
    halt-such c Memory other h = tt

    pub halts-such : (old new : DiskContext D P) (error : ContextError) → ((chunk : List TreesData) → IsSuch chunk → IsOther chunk)
        → Halts state IsSuch all old new error → Halts state IsOther all old new error
    halts-such old new error other h =
        record { same = h.same; committed = h.committed; halt = halt-such new error other h.halt }

  -- nothing was committed
  kept_own : (old new : DiskContext D P) → KeepsEntries old new → new.pass.own ≡ old.pass.own
  kept_own old new kept = ap (λ (p : DiskPass D). p.own) kept.gains.now ∙ append-nil old.pass.own

  module _ (old new : DiskContext D P) (full others : List (List TreesData))
      (have : HasCommitted old.table old.page full old.pass.own) where
    -- a limit was named
    refused : (e : CommitError) (error : LimitError) → limit_in e ≡ Some error → KeepsLimits state old new (Err e) → KeepsEntries old new
        → Halts state (λ chunk. chunk ≡ gathered old) (full ++ gathered old ∷ others) old new (Limit error)
    refused e error is limits kept =
        let after : DiskContext D P = record old { pass = new.pass } in
        let still : HasCommitted old.table old.page full new.pass.own =
        subst (λ (l : List (Entry ClusterMeta)). HasCommitted old.table old.page full l) (sym (kept_own old new kept)) have in
        let there : Halts state (λ chunk. chunk ≡ gathered old) (full ++ gathered old ∷ others) old after (Limit error) = record {
          same = record {
            committer = refl;
            table = refl;
            cluster = refl;
            page = refl;
            staged = refl;
            number = ap (λ (p : DiskPass D). p.number) kept.gains.now;
          };
          committed = committed-first old.table old.page full new.pass.own still (gathered old ∷ others);
          halt = (
            record {
              chunk = gathered old;
              at = committed-next old.table old.page full new.pass.own still (gathered old) others;
              columns = limits.columns;
              gives = limits.gives;
              history = limits.names.history;
              before = limits.names.seen;
              place = limits.names.place;
              passed = limits.names.limits (inr (apart e error is)) ∙ is;
            },
            refl,
          );
        } in
        subst (λ (c : DiskContext D P). Halts state (λ chunk. chunk ≡ gathered old) (full ++ gathered old ∷ others) old c (Limit error))
        (sym kept.now) there

    -- memory was wanting
    wanted : KeepsEntries old new → Halts state (λ chunk. chunk ≡ gathered old) (full ++ gathered old ∷ others) old new Memory
    wanted kept =
        let after : DiskContext D P = record old { pass = new.pass } in
        let there : Halts state (λ chunk. chunk ≡ gathered old) (full ++ gathered old ∷ others) old after Memory = record {
          same = record {
            committer = refl;
            table = refl;
            cluster = refl;
            page = refl;
            staged = refl;
            number = ap (λ (p : DiskPass D). p.number) kept.gains.now;
          };
          committed = committed-first old.table old.page full new.pass.own
              (subst (λ (l : List (Entry ClusterMeta)). HasCommitted old.table old.page full l) (sym (kept_own old new kept)) have)
              (gathered old ∷ others);
          halt = tt;
        } in
        subst (λ (c : DiskContext D P). Halts state (λ chunk. chunk ≡ gathered old) (full ++ gathered old ∷ others) old c Memory)
        (sym kept.now) there

    -- the disk or the pen failed, and these entries were added
    failed : (all : List (List TreesData)) (added : List (Entry ClusterMeta)) → Gains added old.pass new.pass
        → new ≡ record old { pass = new.pass; pen = new.pen }
        → CommittedFirst old.table old.page all (old.pass.own ++ added) → HaveFaults (old.pass.own ++ added)
        → Halts state (λ chunk. chunk ≡ gathered old) all old new Outside
    failed all added gains now committed faults =
        let own : new.pass.own ≡ old.pass.own ++ added = ap (λ (p : DiskPass D). p.own) gains.now in
        let there : Halts state (λ chunk. chunk ≡ gathered old) all old (record old { pass = new.pass; pen = new.pen }) Outside = record {
          same = record {
            committer = refl;
            table = refl;
            cluster = refl;
            page = refl;
            staged = refl;
            number = ap (λ (p : DiskPass D). p.number) gains.now;
          };
          committed = subst (λ (l : List (Entry ClusterMeta)). CommittedFirst old.table old.page all l) (sym own) committed;
          halt = subst (λ (l : List (Entry ClusterMeta)). HaveFaults l) (sym own) faults;
        } in
        subst (λ (c : DiskContext D P). Halts state (λ chunk. chunk ≡ gathered old) all old c Outside) (sym now) there

    faulted : (meta : ClusterMeta) → IsKeptOf old.table old.page (gathered old) meta
        → FailsToWrite old.staged meta old.pass new.pass old.pen new.pen
        → new ≡ record old { pass = new.pass; pen = new.pen }
        → Halts state (λ chunk. chunk ≡ gathered old) (full ++ gathered old ∷ others) old new Outside
    faulted meta kept (inl m) now =
        let i = old.pass.number in
        let added : List (Entry ClusterMeta) = faulted_entry i m.0.faults ∷ [] in
        failed (full ++ gathered old ∷ others) added m.0.gains now
        (committed-first old.table old.page full (old.pass.own ++ added)
        (committed-faulted old.table old.page full old.pass.own i m.0.faults have) (gathered old ∷ others))
        (told_last old.pass.own i m.0.faults)
    faulted meta kept (inr m) now =
        let i = old.pass.number in
        let first : Entry ClusterMeta = record { context = i; kind = reserving old.staged m.0.cluster m.0.start meta.len meta } in
        let added : List (Entry ClusterMeta) = first ∷ spoiled_entry i m.0.cluster m.0.faults ∷ [] in
        let more : HasCommitted old.table old.page (full ++ gathered old ∷ []) (old.pass.own ++ added) =
        committed-spoiled old.table old.page old.staged full old.pass.own
        (gathered old) i m.0.cluster m.0.start meta.len meta m.0.faults have kept refl in
        failed (full ++ gathered old ∷ others) added m.0.gains now
        (subst (λ (l : List (List TreesData)). CommittedFirst old.table old.page l (old.pass.own ++ added)) (append_assoc full
        (gathered old ∷ []) others)
        (committed-first old.table old.page (full ++ gathered old ∷ []) (old.pass.own ++ added) more others))
        (told_spoiled old.pass.own first i m.0.cluster m.0.faults)

  -- why a cluster was not written
  pub write_refused : (old new : DiskContext D P) (e : CommitError)
      → (refusal e ≢ refusal commit.Memory → KeepsLimits state old new (Err e))
      → ((f : CommitError) → refusal e ≡ refusal f → f ≢ commit.Fault → KeepsEntries old new)
      → (refusal e ≡ refusal commit.Fault → FailsToFlush old new) → WritesChunk state old new (Err (context_error e))
  write_refused old new (commit.RangeTooLarge len most) limits kept fault = λ full others have.
      refused old new full others have (commit.RangeTooLarge len most) (limit.RangeTooLarge len most) refl (limits (λ is. cc)) (kept
      (commit.RangeTooLarge len most) refl (λ is. cc))
  write_refused old new (commit.FileTooLarge end most) limits kept fault = λ full others have.
      refused old new full others have (commit.FileTooLarge end most) (limit.FileTooLarge end most) refl (limits (λ is. cc)) (kept
      (commit.FileTooLarge end most) refl (λ is. cc))
  write_refused old new commit.TooManyClusters limits kept fault = λ full others have.
      refused old new full others have commit.TooManyClusters limit.TooManyClusters refl (limits (λ is. cc))
      (kept commit.TooManyClusters refl (λ is. cc))
  write_refused old new commit.Memory limits kept fault = λ full others have. wanted old new full others have (kept
      commit.Memory refl
      (λ is. cc))
  write_refused old new commit.Fault limits kept fault = λ full others have.
      let f = fault refl in
      let meta : ClusterMeta = cluster_meta old.page old.pass.number (length (gathered old)) f.columns in
      faulted old new full others have meta (record { columns = f.columns; gives = f.gives; meta_is = refl }) f.fails f.now
