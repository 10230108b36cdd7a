-- How a script goes on from line to line.
use Rattle.std.proofs.Common.{◌≡◌, inl, inr, ℕ, ◌<◌, true, false, List, [], ◌∷◌, ◌++◌, length, map, refl, Option, None}
use Rattle.std.proofs.Common.{Ok, sym, ap, ◌∙◌, subst, append_assoc, append-nil, arith}
use Rattle.nt_types.specs.ShapeData.{MemberData, parts_of}
use Rattle.nt_types.specs.TreeData.{TreesData}
use Rattle.nt_outside.specs.Disk.{DiskState}
use Rattle.nt_grammar.specs.Table.{Table}
use Rattle.nt_book.specs.declared.params.Params.{Params}
use Rattle.nt_event.specs.declared.lines.Line as given
use Rattle.nt_event.specs.Entry.{entry_of}
use Rattle.nt_event.specs.Lines.{LinesState, IsNextLine, GivesLine}
use Rattle.nt_machine.specs.History.{Cluster}
use Rattle.nt_book.specs.declared.meta.ClusterMeta.{ClusterMeta}
use Rattle.nt_book.specs.Books.{book_clusters}
use Rattle.nt_seq.specs.Writer.{SeqState}
use Rattle.nt_seq.proofs.Blobs.{late-length}
use Rattle.nt_script.specs.Script.{adds_field, field_added}
use Rattle.nt_script.specs.Reading.{Segment, segment_fields}
use Rattle.nt_script.specs.Taking.{GrowsBySegments, HasJustFields, HasGrownBy}
use Rattle.nt_script.specs.Taking.{HasSameSchema}
use Rattle.nt_script.specs.Events.{TakesEvent, TakesField}
use Rattle.nt_script.specs.Running.{IsFirstWriter, GoesOnScript, HasAllLines}
use Rattle.nt_script.proofs.ReadLines.{read-blank, read-entry, read-field, read-end}
use Rattle.nt_script.proofs.ReadLines.{read-nothing, segment_fields-next}

pub grown_same : {D : Type 0} (first : Table) (G : List MemberData) (segments : List Segment) (old new : SeqState D)
    → HasGrownBy first G segments old → HasSameSchema old new → HasGrownBy first G segments new
grown_same first G segments old new grown same = record {
  grows = subst (λ (t : Table). GrowsBySegments new.params first 0 segments t) (sym same.table)
      (subst (λ (p : Params). GrowsBySegments p first 0 segments old.table) (sym same.params) grown.grows);
  just = subst (HasJustFields G) (sym same.table) grown.just;
}

-- of no cluster nothing is kept
none_kept : (cs : List (Cluster ClusterMeta)) → length cs ≡ 0 → map (λ (c : Cluster ClusterMeta). c.meta) cs ≡ []
none_kept [] none = refl
none_kept (c ∷ cs) none = absurd (omega (arith, none))

module _ {D : Type 0} (state : D → DiskState) (F : List MemberData) (text : Option (List ℕ)) (first : Table) (p : Params) where
  -- a line of events was taken
  pub event_went : (G : List MemberData) (old new : SeqState D) (was is : LinesState) (line : given.Line)
      → (on : GoesOnScript state F text first p G old was) → IsNextLine was is line → adds_field line.bytes ≡ false
      → TakesEvent state G on.segments on.entries line old new (Ok tt) → GoesOnScript state F text first p G new is
  event_went G old new was is line on next event (inl h) =
      let there : GoesOnScript state F text first p G old is = record {
        segments = on.segments;
        entries = on.entries;
        fields = on.fields;
        read = read-blank F on.segments on.entries was is line next text on.read event h.0;
        grown = on.grown;
        taken = on.taken;
        is_open = on.is_open;
        params = on.params;
      } in
      subst (λ (w : SeqState D). GoesOnScript state F text first p G w is) (sym h.1) there
  event_went G old new was is line on next event (inr h) = record {
    segments = on.segments;
    entries = on.entries ++ h.0 ∷ [];
    fields = on.fields;
    read = read-entry F on.segments on.entries was is line next text h.0 on.read event h.1.full
        (ap (λ (l : List MemberData). entry_of (parts_of l) line.bytes) (sym on.fields) ∙ h.1.is);
    grown = grown_same first G on.segments old new on.grown h.2.same;
    taken = h.2.taken;
    is_open = h.2.is_open;
    params = h.2.same.params ∙ on.params;
  }

  -- a field was added
  pub field_went : (G G' : List MemberData) (old new : SeqState D) (was is : LinesState) (line : given.Line)
      → (on : GoesOnScript state F text first p G old was) → IsNextLine was is line → adds_field line.bytes ≡ true
      → TakesField state first G G' on.segments on.entries line old new (Ok tt) → GoesOnScript state F text first p G' new is
  field_went G G' old new was is line on next adding h =
      let s : Segment = record { entries = on.entries; field = h.field; metas = h.metas } in
      record {
        segments = on.segments ++ s ∷ [];
        entries = [];
        fields = h.fields
            ∙ (ap (λ (l : List MemberData). l ++ h.field ∷ []) on.fields
            ∙ (append_assoc F (segment_fields on.segments) (h.field ∷ [])
            ∙ ap (λ (l : List MemberData). F ++ l) (sym (segment_fields-next on.segments s))));
        read = read-field F on.segments on.entries was is line next text h.field h.metas on.read adding
            (ap (λ (l : List MemberData). field_added l line.bytes) (sym on.fields) ∙ h.read);
        grown = h.grown;
        taken = h.taken;
        is_open = h.is_open;
        params = h.params ∙ on.params;
      }

  -- there was none
  pub all_given : (G : List MemberData) (w : SeqState D) (was is : LinesState) → GoesOnScript state F text first p G w was
      → GivesLine was is (Ok None) → HasAllLines state F text first p G w
  all_given G w was is on h = record {
    segments = on.segments;
    entries = on.entries;
    read = read-end F on.segments on.entries was text on.read h.was;
    grown = on.grown;
    taken = on.taken;
    is_open = on.is_open;
    params = on.params;
  }

  -- no line was taken yet
  pub script_begun : (lines : LinesState) (w : SeqState D) → w.params ≡ p → w.table ≡ first → lines.left ≡ text
      → IsFirstWriter state F lines w → GoesOnScript state F text first p F w lines
  script_begun lines w same table is begins = record {
    segments = [];
    entries = [];
    fields = sym (append-nil F);
    read = read-nothing F text lines is begins.number;
    grown = record { grows = table; just = begins.just };
    taken = record {
      full = [];
      written = begins.written;
      sizes = tt;
      whole = sym begins.none;
      keeps = record {
        own = [];
        kept = tt;
        metas = none_kept (book_clusters w.book)
            (late-length w.table w.params.page 0 [] begins.written.ranges (book_clusters w.book) begins.written.late);
      };
    };
    is_open = record {
      alive = begins.alive;
      room = subst (λ (l : List TreesData). length l < w.params.cluster) (sym begins.none) (omega (arith, w.params.cluster_range.0));
    };
    params = same;
  }
