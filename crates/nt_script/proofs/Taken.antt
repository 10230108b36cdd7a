-- What a writer has taken after a line of events.
use Rattle.std.proofs.Common.{◌≡◌, inr, ℕ, ◌+◌, ◌<◌, true, List, [], ◌∷◌, ◌++◌, length, Result}
use Rattle.std.proofs.Common.{Ok, Err, sym, ap, ◌∙◌, subst, append_assoc, append-nil, arith}
use Rattle.std.specs.List.{flat_map, AllByRecursion}
use Rattle.std.proofs.lemmas.Grind.{flat_map-append}
use Rattle.nt_lists.specs.Chunks.{chunks}
use Rattle.nt_types.specs.ShapeData.{MemberData}
use Rattle.nt_types.specs.TreeData.{TreesData}
use Rattle.nt_machine.proofs.Histories.{AllByRecursion-append}
use Rattle.nt_outside.specs.Disk.{DiskState}
use Rattle.nt_grammar.specs.Table.{Table}
use Rattle.nt_book.specs.declared.params.Params.{Params}
use Rattle.nt_event.specs.declared.lines.Line as given
use Rattle.nt_seq.specs.Writer.{SeqState, gathered_by, GathersEntry}
use Rattle.nt_seq.specs.Written.{HasWritten}
use Rattle.nt_script.specs.declared.error.ScriptError.{ScriptError}
use Rattle.nt_script.specs.declared.error.ScriptError.TheVariants.{Line, Limit, Outside, Memory}
use Rattle.nt_script.specs.Reading.{Segment}
use Rattle.nt_script.specs.Taking.{clusters_of_segments, KeepsClusters, HasTakenLines, HasSameSchema, MakesWhole, HaltsAt}
use Rattle.nt_script.specs.Taking.{WritesGathered, WritesWhole}
use Rattle.nt_script.specs.Events.{IsEntryLine, TakesEvent}
use Rattle.nt_script.proofs.Flushed.{last_chunk}

module _ {D : Type 0} (state : D → DiskState) where
  -- what the next cluster is, is said in other words
  pub halts_as : (P Q : List TreesData → Type 0) (t : Table) (p : Params) (segments : List Segment) (es : List TreesData)
      (new : SeqState D) (error : ScriptError) → ((next : List TreesData) → P next → Q next)
      → HaltsAt state P t p segments es new error → HaltsAt state Q t p segments es new error
  halts_as P Q t p segments es new (Line line kind) turn h = h
  halts_as P Q t p segments es new (Limit error) turn h = (h.0, turn h.0 h.1, h.2)
  halts_as P Q t p segments es new Outside turn h = h
  halts_as P Q t p segments es new Memory turn h = h

  -- a whole cluster that was written, or why not
  pub whole_written : (segments : List Segment) (es : List TreesData) (old new : SeqState D) (result : Result Unit ScriptError)
      → 0 < old.params.cluster → length (gathered_by old) ≡ old.params.cluster → HasTakenLines state segments es old
      → WritesGathered state segments es old new result → WritesWhole state segments es old new result
  whole_written segments es old new (Ok done) some whole taken writes =
      let g = gathered_by old in
      let same = writes.1 in
      let are : chunks new.params.cluster es ≡ taken.full ++ g ∷ [] =
      ap (λ (p : Params). chunks p.cluster es) same.params
      ∙ last_chunk state segments es old (omega (arith, some, whole)) (omega (arith, whole))
      taken in
      let sizes : AllByRecursion (λ (chunk : List TreesData). length chunk ≡ new.params.cluster) (taken.full ++ g ∷ []) =
      subst (λ (p : Params). AllByRecursion (λ (chunk : List TreesData). length chunk ≡ p.cluster) (taken.full ++ g ∷ []))
      (sym same.params)
      (AllByRecursion-append (λ (chunk : List TreesData). length chunk ≡ old.params.cluster) taken.full (g ∷ []) taken.sizes
      (whole, tt)) in (
        record {
          full = taken.full ++ g ∷ [];
          written = subst (λ (l : List (List TreesData)). HasWritten state new (clusters_of_segments new.params.cluster segments ++ l)) are
              writes.0.written;
          sizes = sizes;
          whole = taken.whole
              ∙ (ap (λ (l : List TreesData). flat_map (λ (c : List TreesData). c) taken.full ++ l) (sym (append-nil g))
              ∙ (sym (flat_map-append (λ (c : List TreesData). c) taken.full (g ∷ []))
              ∙ (sym (append-nil (flat_map (λ (c : List TreesData). c) (taken.full ++ g ∷ [])))
              ∙ ap (λ (l : List TreesData). flat_map (λ (c : List TreesData). c) (taken.full ++ g ∷ []) ++ l) (sym writes.0.none))));
          keeps = subst (λ (l : List (List TreesData)). KeepsClusters segments l new) are writes.0.keeps;
        },
        record {
          alive = same.alive;
          room = subst (λ (l : List TreesData). length l < new.params.cluster) (sym writes.0.none)
              (subst (λ (p : Params). 0 < p.cluster) (sym same.params) some);
        },
        same,
      )
  whole_written segments es old new (Err error) some whole taken writes =
      halts_as (λ next. next ≡ gathered_by old) (MakesWhole old.params) old.table old.params segments es new error
      (λ next same. ap (λ (l : List TreesData). length l) same ∙ whole) writes

  -- one entry more was taken
  pub entry_taken : (segments : List Segment) (es : List TreesData) (entry : TreesData) (old new : SeqState D)
      → HasTakenLines state segments es old → GathersEntry entry old new → HasTakenLines state segments (es ++ entry ∷ []) new
  entry_taken segments es entry old new taken h =
      let after : SeqState D = record old { columns = new.columns; entries = new.entries } in
      let count : old.entries + 1 ≡ new.entries = sym (ap (λ (w : SeqState D). w.entries) h.now) in
      let now : new ≡ after = h.now ∙ ap (λ (n : ℕ). record old { columns = new.columns; entries = n }) count in
      let more : gathered_by after ≡ gathered_by old ++ entry ∷ [] = ap (λ (w : SeqState D). gathered_by w) (sym now) ∙ h.entries in
      let there : HasTakenLines state segments (es ++ entry ∷ []) after = record {
        full = taken.full;
        written = taken.written;
        sizes = taken.sizes;
        whole = ap (λ (l : List TreesData). l ++ entry ∷ []) taken.whole
            ∙ (append_assoc (flat_map (λ (c : List TreesData). c) taken.full) (gathered_by old) (entry ∷ [])
            ∙ ap (λ (l : List TreesData). flat_map (λ (c : List TreesData). c) taken.full ++ l) (sym more));
        keeps = record { own = taken.keeps.own; kept = taken.keeps.kept; metas = taken.keeps.metas };
      } in
      subst (HasTakenLines state segments (es ++ entry ∷ [])) (sym now) there

  pub gathers_same : (entry : TreesData) (old new : SeqState D) → old.alive ≡ true → GathersEntry entry old new → HasSameSchema old new
  gathers_same entry old new alive h = record {
    table = ap (λ (w : SeqState D). w.table) h.now;
    params = ap (λ (w : SeqState D). w.params) h.now;
    alive = ap (λ (w : SeqState D). w.alive) h.now ∙ alive;
  }

  -- the entry of a line was taken, and its cluster written if it is whole; or why not
  pub event_taken : (F : List MemberData) (segments : List Segment) (es : List TreesData) (line : given.Line) (entry : TreesData)
      (old mid new : SeqState D) (result : Result Unit ScriptError) → old.alive ≡ true → IsEntryLine F line entry
      → GathersEntry entry old mid
      → WritesWhole state segments (es ++ entry ∷ []) mid new result → TakesEvent state F segments es line old new result
  event_taken F segments es line entry old mid new (Ok done) alive is h whole =
      let same = gathers_same entry old mid alive h in
      inr (
        entry,
        is,
        record {
          taken = whole.0;
          is_open = whole.1;
          same = record {
            table = whole.2.table ∙ same.table;
            params = whole.2.params ∙ same.params;
            alive = whole.2.alive;
          };
        },
      )
  event_taken F segments es line entry old mid new (Err error) alive is h whole =
      let same = gathers_same entry old mid alive h in
      inr (
        entry,
        is,
        subst (λ (t : Table). HaltsAt state (MakesWhole old.params) t old.params segments (es ++ entry ∷ []) new error) same.table
            (subst (λ (p : Params). HaltsAt state (MakesWhole p) mid.table p segments (es ++ entry ∷ []) new error) same.params whole),
      )
