-- How a script ends.
use Rattle.std.proofs.Common.{◌≡◌, ◌≢◌, inl, inr, ℕ, ◌≤◌, true, false, List, [], ◌∷◌, ◌++◌, Option, Some, None, Result}
use Rattle.std.proofs.Common.{Ok, Err, refl, sym, ap, ◌∙◌, subst, arith}
use Rattle.nt_lists.specs.Chunks.{chunks}
use Rattle.nt_types.specs.ShapeData.{MemberData, parts_of}
use Rattle.nt_types.specs.TreeData.{TreesData}
use Rattle.nt_outside.specs.Disk.{DiskState}
use Rattle.nt_grammar.specs.Rows.{Rows}
use Rattle.nt_grammar.specs.Table.{Table}
use Rattle.nt_book.specs.declared.limits.LimitError.{LimitError}
use Rattle.nt_book.specs.declared.params.Params.{Params}
use Rattle.nt_types.specs.declared.fault.SchemaKind.{SchemaKind}
use Rattle.nt_book.specs.declared.meta.ClusterMeta.{ClusterMeta}
use Rattle.nt_dealing.specs.Limits.{AreKeptOf}
use Rattle.nt_event.specs.declared.fault.TextKind.{TextKind}
use Rattle.nt_event.specs.declared.fault.TextKind.TheVariants.{TooLong}
use Rattle.nt_event.specs.declared.lines.Line as given
use Rattle.nt_event.specs.declared.lines.LineError.{LineError}
use Rattle.nt_event.specs.declared.lines.LineError.TheVariants as reading
use Rattle.nt_event.specs.Entry.{entry_of}
use Rattle.nt_event.specs.Lines.{LinesState, IsNextLine, GivesLine}
use Rattle.nt_seq.specs.Writer.{SeqState, gathered_by}
use Rattle.nt_seq.specs.Written.{HasWritten}
use Rattle.nt_script.specs.declared.error.LineFault.TheVariants.{Event, Field}
use Rattle.nt_script.specs.declared.error.ScriptError.{ScriptError}
use Rattle.nt_script.specs.declared.error.ScriptError.TheVariants.{Line, Limit, Outside, Memory}
use Rattle.nt_script.specs.Script.{Script, last_entries, adds_field, field_added}
use Rattle.nt_script.specs.Clusters.{GrowsByScript}
use Rattle.nt_script.specs.Reading.{Segment, segment_metas, behind_segments, GivesScript}
use Rattle.nt_script.specs.Limits.{StandsWithin, PassesHere}
use Rattle.nt_script.specs.Taking.{clusters_of_segments, GrowsBySegments, HasGrownBy, HasTakenLines, KeepsClusters, IsOpenWriter}
use Rattle.nt_script.specs.Taking.{StaysInLimits, MakesWhole, HaltsAt, WritesGathered}
use Rattle.nt_script.specs.Passing.{IsWrittenNext, PassesWriting, IsScriptWritten, whole_clusters, PassesNoneBefore}
use Rattle.nt_script.specs.Events.{IsEventError, IsFieldError, TakesEvent, WritesBeforeField, TakesField}
use Rattle.nt_script.specs.Running.{error_of_lines, GoesOnScript, HasAllLines, EndsEarlyFor}
use Rattle.nt_script.specs.Running.{EndedScript}
use Rattle.nt_script.proofs.ReadLines.{read-entry, read-bad, read-no_field, read-too_long, read-ahead}
use Rattle.nt_script.proofs.ReadLines.{read-ended, ends_here}
use Rattle.nt_script.proofs.WholeClusters.{whole_are}
use Rattle.nt_script.proofs.Segments.{script-segments, bad-segments, grows-script}
use Rattle.nt_script.proofs.Goes.{grown_same}

module _ {D : Type 0} (state : D → DiskState) (F : List MemberData) (text : Option (List ℕ)) (first : Table) (p : Params) where
  -- a limit that the next cluster passes is passed by the script
  writing_passed : (rows : Rows F p.plain first) (segments : List Segment) (es next : List TreesData) (behind : Script) (t : Table)
      (error : LimitError) → GrowsBySegments p first 0 segments t → PassesHere t p segments es next error → IsWrittenNext p next behind
      → PassesWriting F p (behind_segments segments es behind) error
  writing_passed rows segments es next behind t error grows passes written = record {
    first = first;
    rows = rows;
    segments = segments;
    table = t;
    grows = grows;
    entries = es;
    next = next;
    passes = passes;
    behind = behind;
    script_is = refl;
    written_next = written;
  }

  -- by the parameters of a writer
  grown_by : (G : List MemberData) (segments : List Segment) (w : SeqState D) → HasGrownBy first G segments w → w.params ≡ p
      → GrowsBySegments p first 0 segments w.table
  grown_by G segments w grown same = subst (λ (q : Params). GrowsBySegments q first 0 segments w.table) same grown.grows

  -- what a writer has written is written so far of a script
  written_so_far : (rows : Rows F p.plain first) (G : List MemberData) (segments : List Segment) (clusters : List (List TreesData))
      (w : SeqState D) → HasGrownBy first G segments w → w.params ≡ p → StaysInLimits w → KeepsClusters segments clusters w
      → IsScriptWritten F p segments clusters
  written_so_far rows G segments clusters w grown same stands keeps = record {
    first = first;
    rows = rows;
    table = w.table;
    grows = grown_by G segments w grown same;
    own = keeps.own;
    kept = subst (λ (q : Params). AreKeptOf w.table q.page clusters keeps.own) same keeps.kept;
    within = subst (λ (q : Params). StandsWithin w.table q (segment_metas segments ++ keeps.own)) same
        (subst (λ (ms : List ClusterMeta). StandsWithin w.table w.params ms) keeps.metas stands);
  }

  -- in front of a bad line of events
  before_event : (rows : Rows F p.plain first) (G : List MemberData) (segments : List Segment) (es : List TreesData) (w : SeqState D)
      (line number : ℕ) (kind : TextKind) → HasGrownBy first G segments w → w.params ≡ p → StaysInLimits w
      → HasTakenLines state segments es w → IsOpenWriter w → number ≡ line
      → PassesNoneBefore F p (behind_segments segments [] (last_entries es (Some (record { line = line; kind = Event kind }))))
      (record { line = number; kind = Event kind })
  before_event rows G segments es w line number kind grown same stands taken is_open is = record {
    segments = segments;
    entries = es;
    script_is = ap (λ (n : ℕ). behind_segments segments [] (last_entries es (Some (record { line = n; kind = Event kind })))) (sym is);
    written = subst (IsScriptWritten F p segments)
        (sym (ap (λ (q : Params). whole_clusters q.cluster (chunks q.cluster es)) (sym same)
        ∙ whole_are w.params.cluster taken.full (gathered_by w) es taken.whole taken.sizes is_open.room))
        (written_so_far rows G segments taken.full w grown same stands taken.keeps);
  }

  -- and in front of one that was to add a field
  before_field : (rows : Rows F p.plain first) (G : List MemberData) (segments : List Segment) (es : List TreesData)
      (old new : SeqState D) (line number : ℕ) (kind : SchemaKind) → HasGrownBy first G segments old → old.params ≡ p
      → WritesBeforeField state segments es old new → number ≡ line
      → PassesNoneBefore F p (behind_segments segments [] (last_entries es (Some (record { line = line; kind = Field kind }))))
      (record { line = number; kind = Field kind })
  before_field rows G segments es old new line number kind grown same before is =
      let params : new.params ≡ p = before.same.params ∙ same in
      record {
        segments = segments;
        entries = es;
        script_is = ap (λ (n : ℕ). behind_segments segments [] (last_entries es (Some (record { line = n; kind = Field kind })))) (sym is);
        written = subst (λ (q : Params). IsScriptWritten F p segments (chunks q.cluster es)) params
            (written_so_far rows G segments (chunks new.params.cluster es) new (grown_same first G segments old new grown before.same)
            params before.stands before.written.keeps);
      }

  module _ (rows : Rows F p.plain first) where
    -- what was taken isn't written, and so the script ends
    pub halted_ends : (IsNext : List TreesData → Type 0) (G : List MemberData) (segments : List Segment) (es : List TreesData)
        (old new : SeqState D) (was is : LinesState) (error : ScriptError) → HasGrownBy first G segments old → old.params ≡ p
        → (behind : Script) → GivesScript F text (behind_segments segments es behind)
        → ((next : List TreesData) → IsNext next → IsWrittenNext p next behind)
        → HaltsAt state IsNext old.table old.params segments es new error → EndsEarlyFor state F text first p was is new error
    halted_ends IsNext G segments es old new was is (Line line kind) grown same behind gives written h = absurd h
    halted_ends IsNext G segments es old new was is (Limit error) grown same behind gives written h = (
      behind_segments segments es behind,
      gives,
      writing_passed rows segments es h.0 behind old.table error (grown_by G segments old grown same)
          (subst (λ (q : Params). PassesHere old.table q segments es h.0 error) same h.2) (written h.0 h.1),
    )
    halted_ends IsNext G segments es old new was is Outside grown same behind gives written h = inr h
    halted_ends IsNext G segments es old new was is Memory grown same behind gives written h = tt

    -- a line of events was not taken
    pub event_ends : (G : List MemberData) (old new : SeqState D) (was is : LinesState) (line : given.Line) (error : ScriptError)
        → (on : GoesOnScript state F text first p G old was) → StaysInLimits old → IsNextLine was is line → adds_field line.bytes ≡ false
        → TakesEvent state G on.segments on.entries line old new (Err error) → EndsEarlyFor state F text first p was is new error
    event_ends G old new was is line error on stands next event (inr h) =
        let ahead = read-ahead F on.segments (on.entries ++ h.0 ∷ []) is text
        (read-entry F on.segments on.entries was is line next text h.0 on.read event h.1.full
        (ap (λ (l : List MemberData). entry_of (parts_of l) line.bytes) (sym on.fields) ∙ h.1.is)) in
        halted_ends (MakesWhole old.params) G on.segments (on.entries ++ h.0 ∷ []) old new was is error on.grown on.params ahead.0 ahead.1
        (λ next whole. inl (subst (λ (q : Params). MakesWhole q next) on.params whole)) h.2
    event_ends G old new was is line error on stands next event (inl h) = at error h.1
      where
        at : (e : ScriptError) → IsEventError G line e → EndsEarlyFor state F text first p was is new e
        at (Line number (Event kind)) why = (
          behind_segments on.segments [] (last_entries on.entries (Some (record { line = line.number; kind = Event kind }))),
          read-bad F on.segments on.entries was is line next text kind on.read event h.0
              (ap (λ (l : List MemberData). entry_of (parts_of l) line.bytes) (sym on.fields) ∙ why.1),
          bad-segments on.segments on.entries (Some (record { line = line.number; kind = Event kind }))
              ∙ ap (λ (n : ℕ). Some (record { line = n; kind = Event kind })) (sym why.0),
          before_event rows G on.segments on.entries old line.number number kind on.grown on.params stands on.taken on.is_open why.0,
        )
        at (Line number (Field kind)) why = absurd why
        at (Limit e) why = absurd why
        at Outside why = absurd why
        at Memory why = tt

    -- a field was not added
    pub field_ends : (G G' : List MemberData) (old new : SeqState D) (was is : LinesState) (line : given.Line) (error : ScriptError)
        → (on : GoesOnScript state F text first p G old was) → IsNextLine was is line → adds_field line.bytes ≡ true
        → TakesField state first G G' on.segments on.entries line old new (Err error) → EndsEarlyFor state F text first p was is new error
    field_ends G G' old new was is line error on next adding (inr h) =
        let ended = read-ended F on.segments on.entries was is line next text on.read adding in
        halted_ends (λ next. Unit {0}) G on.segments on.entries old new was is error on.grown on.params ended.0 ended.1
        (λ next any. inr ended.2) h
    field_ends G G' old new was is line error on next adding (inl h) = at error h.why h.before
      where
        at : (e : ScriptError) → IsFieldError G line e → (e ≢ Memory → WritesBeforeField state on.segments on.entries old new)
            → EndsEarlyFor state F text first p was is new e
        at (Line number (Field kind)) why before = (
          behind_segments on.segments [] (last_entries on.entries (Some (record { line = line.number; kind = Field kind }))),
          read-no_field F on.segments on.entries was is line next text kind on.read adding
              (ap (λ (l : List MemberData). field_added l line.bytes) (sym on.fields) ∙ why.1),
          bad-segments on.segments on.entries (Some (record { line = line.number; kind = Field kind }))
              ∙ ap (λ (n : ℕ). Some (record { line = n; kind = Field kind })) (sym why.0),
          before_field rows G on.segments on.entries old new line.number number kind on.grown on.params (before (λ same. cc same)) why.0,
        )
        at (Line number (Event kind)) why before = absurd why
        at (Limit e) why before = absurd why
        at Outside why before = absurd why
        at Memory why before = tt

  -- no line was given
  pub not_given : (rows : Rows F p.plain first) (G : List MemberData) (w : SeqState D) (was is : LinesState) (error : LineError)
      → GoesOnScript state F text first p G w was → StaysInLimits w → GivesLine was is (Err error)
      → EndsEarlyFor state F text first p was is w (error_of_lines error)
  not_given rows G w was is reading.Fault on stands h = inl h
  not_given rows G w was is (reading.TooLong line) on stands h = (
    behind_segments on.segments [] (last_entries on.entries (Some (record { line = line; kind = Event TooLong }))),
    read-too_long F on.segments on.entries was text line on.read h.0 h.1,
    bad-segments on.segments on.entries (Some (record { line = line; kind = Event TooLong })),
    before_event rows G on.segments on.entries w line line TooLong on.grown on.params stands on.taken on.is_open refl,
  )
  not_given rows G w was is reading.Memory on stands h = tt

  -- all lines were taken, and what was gathered was written, or why not
  pub script_ended : (rows : Rows F p.plain first) (G : List MemberData) (old new : SeqState D) (was now is : LinesState)
      (result : Result Unit ScriptError) → (all : HasAllLines state F text first p G old)
      → WritesGathered state all.segments all.entries old new result → EndedScript state F text first p was is new result
  script_ended rows G old new was now is (Ok done) all h =
      let grown = grown_same first G all.segments old new all.grown h.1 in
      let same : new.params ≡ p = h.1.params ∙ all.params in
      record {
        script = behind_segments all.segments [] (last_entries all.entries None);
        read = all.read;
        sound = bad-segments all.segments all.entries None;
        segments = all.segments;
        entries = all.entries;
        script_is = refl;
        segments_grow = grown_by G all.segments new grown same;
        keeps = subst (λ (q : Params). KeepsClusters all.segments (chunks q.cluster all.entries) new) same h.0.keeps;
        grows = subst (λ (q : Params). GrowsByScript q.plain first 0 (behind_segments all.segments [] (last_entries all.entries None))
            new.table) same (grows-script new.params first 0 all.segments new.table all.entries None grown.grows);
        written = subst (HasWritten state new) (sym (script-segments p.cluster all.segments all.entries None))
            (subst (λ (q : Params). HasWritten state new (clusters_of_segments q.cluster all.segments ++ chunks q.cluster all.entries)) same
            h.0.written);
        none = h.0.none;
        alive = h.1.alive;
        params = same;
      }
  script_ended rows G old new was now is (Err (Line line kind)) all h = absurd h
  script_ended rows G old new was now is (Err (Limit error)) all h = (
    behind_segments all.segments [] (last_entries all.entries None),
    all.read,
    subst (λ (s : Script). PassesWriting F p s error) (ends_here all.segments all.entries)
        (writing_passed rows all.segments all.entries h.0 (last_entries [] None) old.table error
        (grown_by G all.segments old all.grown all.params)
        (subst (λ (q : Params). PassesHere old.table q all.segments all.entries h.0 error) all.params h.2) (inr tt)),
  )
  script_ended rows G old new was now is (Err Outside) all h = inr h
  script_ended rows G old new was now is (Err Memory) all h = tt

  -- a line was not taken
  pub early : (was mid is : LinesState) (w : SeqState D) (error : ScriptError) → was.faults ≤ mid.faults
      → EndsEarlyFor state F text first p mid is w error → EndsEarlyFor state F text first p was is w error
  early was mid is w (Line line kind) later h = h
  early was mid is w (Limit error) later h = h
  early was mid is w Outside later (inl rose) = inl (omega (arith, rose))
  early was mid is w Outside later (inr failed) = inr failed
  early was mid is w Memory later h = tt
