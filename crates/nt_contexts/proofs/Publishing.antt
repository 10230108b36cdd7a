-- A context that wrote its last chunk: staged clusters are published then, with the numbers of all its ranges.
use Rattle.std.proofs.Common.{◌≡◌, ℕ, Bool, true, false, List, [], ◌∷◌, ◌++◌, map, Ok, Err, refl, sym, ap, ◌∙◌, subst}
use Rattle.std.proofs.Common.{append_assoc, append-nil}
use Rattle.std.specs.Prelude.{Option, ◌==◌, ◌&&◌, cond}
use Rattle.std.specs.List.{fold, flat_map}
use Rattle.std.specs.declared.alloc.AllocError.{AllocError}
use Rattle.std.proofs.lemmas.Bool.{false≢true}
use Rattle.std.proofs.lemmas.List.{map-append}
use Rattle.nt_types.specs.TreeData.{TreesData}
use Rattle.nt_outside.specs.Disk.{DiskState}
use Rattle.nt_lists.specs.Chunks.{chunks}
use Rattle.nt_machine.specs.declared.entry.Entry.{Entry}
use Rattle.nt_machine.specs.declared.entry.EntryKind.TheVariants as entry
use Rattle.nt_machine.specs.History.{Fate, Out, Settled, Cluster, WrittenChunk, is_out, handed_back, after_entry, ranges_of, numbers_of}
use Rattle.nt_machine.specs.History.{entries_of_chunk, written_numbers, Wrote, WroteAll}
use Rattle.nt_book.specs.declared.meta.ClusterMeta.{ClusterMeta}
use Rattle.nt_commit.specs.Holds.{PublishesInHold}
use Rattle.nt_fill.specs.Passes.{Gains, gained}
use Rattle.nt_fill.specs.Flushes.{DiskContext}
use Rattle.nt_fill.proofs.Passes.{gains_by}
use Rattle.nt_dealing.specs.Written.{IsChunkBlob, CommittedFirst}
use Rattle.nt_contexts.specs.declared.error.ContextError.TheVariants.{Memory}
use Rattle.nt_contexts.specs.Seats.{DiskPass}
use Rattle.nt_contexts.specs.Filling.{IsSameContext, HasCommitted, HasWrittenChunks, HasWrittenAll, held_before, Halts}
use Rattle.nt_contexts.specs.Taking.{PublishesAll}
use Rattle.nt_contexts.proofs.Committing.{committed-first, committed-published}

-- a range that is handed back keeps its number
numbers-handed : (i n : ℕ) (fate : Fate) (cs : List (Cluster ClusterMeta)) → numbers_of (map (handed_back i n fate) cs) ≡ numbers_of cs
numbers-handed i n fate [] = refl
numbers-handed i n fate (c ∷ cs) =
    ap (λ (m : ℕ). m ∷ numbers_of (map (handed_back i n fate) cs)) (at (c.context == i && c.number == n && is_out c.state))
    ∙ ap (λ (l : List ℕ). c.number ∷ l) (numbers-handed i n fate cs)
  where
    at : (b : Bool) → (cond b (record c { state = fate }) c).number ≡ c.number
    at true = refl
    at false = refl

-- staged chunks that were written one after the other leave ranges of their numbers
numbers-from : (i : ℕ) (cs : List (Cluster ClusterMeta)) (ws : List (WrittenChunk ClusterMeta))
    → numbers_of (fold after_entry cs (flat_map (entries_of_chunk true i) ws)) ≡ numbers_of cs ++ written_numbers ws
numbers-from i cs [] = sym (append-nil (numbers_of cs))
numbers-from i cs (w ∷ ws) =
    let range : Cluster ClusterMeta =
    record { context = i; number = w.number; start = w.start; len = w.len; meta = w.meta; state = Out } in
    let more = cs ++ range ∷ [] in
    numbers-from i (map (handed_back i w.number (Settled w.bytes)) more) ws
    ∙ (ap (λ (l : List ℕ). l ++ written_numbers ws)
    (numbers-handed i w.number (Settled w.bytes) more ∙ map-append (λ (c : Cluster ClusterMeta). c.number) cs (range ∷ []))
    ∙ append_assoc (numbers_of cs) (w.number ∷ []) (written_numbers ws))

module _ {C : Type 0} (IsBlobOf : C → ℕ → Option (List ℕ) → ClusterMeta → Type 0) (i : ℕ) (cs : List C) (own : List (Entry ClusterMeta))
  where
    -- with the entry that publishes them, all is written
    wrote-published : (staged : Bool) → staged ≡ true → Wrote IsBlobOf staged i cs own
        → WroteAll IsBlobOf staged i cs (own ++ record { context = i; kind = entry.Published (numbers_of (ranges_of own)) } ∷ [])
    wrote-published false is h = absurd (false≢true is)
    wrote-published true is h = record {
      writes = h.writes;
      are =
          ap (λ (l : List (Entry ClusterMeta)). l ++ record { context = i; kind = entry.Published (numbers_of (ranges_of l)) } ∷ []) h.are
          ∙ ap (λ (ns : List ℕ). flat_map (entries_of_chunk true i) h.writes ++ record {
            context = i;
            kind = entry.Published ns;
          } ∷ []) (numbers-from i [] h.writes);
      blobs = h.blobs;
    }

module _ {D P : Type 0} (state : D → DiskState) (entries : List TreesData) where
  abbrev blob_of : DiskContext D P → List TreesData → ℕ → Option (List ℕ) → ClusterMeta → Type 0
  blob_of c = IsChunkBlob (held_before state c) c.table c.page

  module _ (old new : DiskContext D P) (wrote : HasWrittenChunks state entries old) (now : new ≡ record old { pass = new.pass }) where
    -- they are published
    pub chunks-published : (done : Unit {0}) → old.staged ≡ true
        → PublishesInHold state old.committer old.pass new.pass (Ok done) → PublishesAll state entries old new (Ok tt)
    chunks-published done staged p =
        let i = old.pass.number in
        let added : List (Entry ClusterMeta) = record { context = i; kind = entry.Published (numbers_of (ranges_of old.pass.own)) } ∷ [] in
        let gains : Gains added old.pass new.pass = gains_by state old.committer p.taken p.given added old.pass new.pass p.hold in
        let pass : DiskPass D = gained old.pass new.pass.seen added in
        let is : new ≡ record old { pass = pass } = now ∙ ap (λ (q : DiskPass D). record old { pass = q }) gains.now in
        let there : HasWrittenAll state entries (record old { pass = pass }) = record {
          wrote = wrote-published (blob_of old) i (chunks old.cluster entries) old.pass.own old.staged staged wrote.wrote;
          committed = committed-published old.table old.page (chunks old.cluster entries) old.pass.own i
              (numbers_of (ranges_of old.pass.own)) wrote.committed;
        } in
        let same : IsSameContext old (record old { pass = pass }) =
        record { committer = refl; table = refl; cluster = refl; page = refl; staged = refl; number = refl } in
        subst (λ (c : DiskContext D P). HasWrittenAll state entries c × IsSameContext old c) (sym is) (there, same)

    -- memory was wanting
    pub chunks-unpublished : (e : AllocError) → PublishesInHold state old.committer old.pass new.pass (Err e)
        → PublishesAll state entries old new (Err Memory)
    chunks-unpublished e p =
        let gains : Gains [] old.pass new.pass = gains_by state old.committer p.taken p.given [] old.pass new.pass p.hold in
        let pass : DiskPass D = gained old.pass new.pass.seen [] in
        let is : new ≡ record old { pass = pass } = now ∙ ap (λ (q : DiskPass D). record old { pass = q }) gains.now in
        let still : HasCommitted old.table old.page (chunks old.cluster entries) (old.pass.own ++ []) =
        subst (λ (l : List (Entry ClusterMeta)). HasCommitted old.table old.page (chunks old.cluster entries) l)
        (sym (append-nil old.pass.own)) wrote.committed in
        let there : Halts state (λ chunk. Unit {0}) (chunks old.cluster entries) old (record old { pass = pass }) Memory = record {
          same = record { committer = refl; table = refl; cluster = refl; page = refl; staged = refl; number = refl };
          committed = subst (λ (l : List (List TreesData)). CommittedFirst old.table old.page l (old.pass.own ++ []))
              (append-nil (chunks old.cluster entries))
              (committed-first old.table old.page (chunks old.cluster entries) (old.pass.own ++ []) still []);
          halt = tt;
        } in
        subst (λ (c : DiskContext D P). Halts state (λ chunk. Unit {0}) (chunks old.cluster entries) old c Memory) (sym is) there
