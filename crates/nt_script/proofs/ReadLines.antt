-- How far a script was read, line by line.
use Rattle.std.proofs.Common.{◌≡◌, ◌⊎◌, ℕ, ◌+◌, ◌<◌, ◌≤◌, Bool, true, false, List, [], ◌∷◌, ◌++◌, Option, Some, None}
use Rattle.std.proofs.Common.{Result, Ok, Err, sym, ap, ◌∙◌, subst, append_assoc, append-nil, arith}
use Rattle.std.specs.Prelude.{if◌then◌else◌}
use Rattle.std.proofs.lemmas.List.{map-append}
use Rattle.std.specs.Io.KnownBytes.{IsAtEnd}
use Rattle.nt_types.specs.ShapeData.{MemberData, parts_of}
use Rattle.nt_types.specs.TreeData.{TreesData}
use Rattle.nt_types.specs.Lines.{is_blank_line}
use Rattle.nt_types.specs.declared.fault.SchemaKind.{SchemaKind}
use Rattle.nt_event.specs.declared.lines.Line.{Line}
use Rattle.nt_event.specs.declared.fault.TextKind.{TextKind}
use Rattle.nt_event.specs.declared.fault.TextKind.TheVariants.{TooLong}
use Rattle.nt_event.specs.Limits.{max_number}
use Rattle.nt_event.specs.Entry.{entry_of}
use Rattle.nt_event.specs.Lines.{LinesState, IsNextLine, BeginsTooLong, HasMore}
use Rattle.nt_book.specs.declared.meta.ClusterMeta.{ClusterMeta}
use Rattle.nt_dealing.specs.EventText.{text_lines}
use Rattle.nt_contexts.proofs.Reading.{LineOff, within, next_line, beyond}
use Rattle.nt_contexts.proofs.BadLines.{bad_next}
use Rattle.nt_script.specs.declared.error.LineFault.{LineFault}
use Rattle.nt_script.specs.declared.error.LineFault.TheVariants.{Event, Field}
use Rattle.nt_script.specs.Script.{Script, last_entries, and_field, with_entries, breaks_off, adds_field, then_field, field_added}
use Rattle.nt_script.specs.Script.{script_of_lines, read_script}
use Rattle.nt_script.specs.Reading.{Segment, segment_fields, behind_segments, HasReadScript, GivesScript}
use Rattle.nt_script.specs.Passing.{EndsSegment}
use Rattle.nt_script.proofs.Scripts.{with_entries-none, then_entry, script-event, script-field, script-beyond, segments-entry}
use Rattle.nt_script.proofs.Scripts.{segments-field}

pub segment_fields-next : (segments : List Segment) (s : Segment)
    → segment_fields (segments ++ s ∷ []) ≡ segment_fields segments ++ s.field ∷ []
segment_fields-next segments s = map-append (λ (x : Segment). x.field) segments (s ∷ [])

-- a bad line ends the segment that goes on
pub breaks_here : (segments : List Segment) (es : List TreesData) (number : ℕ) (kind : LineFault)
    → behind_segments segments es (breaks_off number kind)
    ≡ behind_segments segments [] (last_entries es (Some (record { line = number; kind = kind })))
breaks_here [] es number kind = ap (λ (l : List TreesData). last_entries l (Some (record { line = number; kind = kind }))) (append-nil es)
breaks_here (s ∷ segments) es number kind = ap (λ (x : Script). and_field s.entries s.field x) (breaks_here segments es number kind)

-- so does the end
pub ends_here : (segments : List Segment) (es : List TreesData)
    → behind_segments segments es (last_entries [] None) ≡ behind_segments segments [] (last_entries es None)
ends_here [] es = ap (λ (l : List TreesData). last_entries l None) (append-nil es)
ends_here (s ∷ segments) es = ap (λ (x : Script). and_field s.entries s.field x) (ends_here segments es)

module _ (F : List MemberData) (segments : List Segment) where
  abbrev now_fields : List MemberData
  now_fields = F ++ segment_fields segments

  -- what the lines from this one on give
  abbrev from_here : LinesState → List ℕ → Script
  from_here now rest = script_of_lines now_fields (now.number + 1) (text_lines rest)

  near : (old new : LinesState) (line : Line) → IsNextLine old new line → old.number + 1 ≤ max_number
  near old new line next = omega (arith, next.number.0, next.number.1)

  event_line : (old new : LinesState) (line : Line) (text : List ℕ) → IsNextLine old new line → (off : LineOff old new line.bytes text)
      → adds_field line.bytes ≡ false
      → from_here old text ≡ (if is_blank_line line.bytes then from_here new off.rest
      else then_entry (old.number + 1) (entry_of (parts_of now_fields) line.bytes) (from_here new off.rest))
  event_line old new line text next off event =
      let count : new.number ≡ old.number + 1 = next.counted ∙ next.number.0 in
      ap (λ (l : List (List ℕ)). script_of_lines now_fields (old.number + 1) l) off.lines
      ∙ (script-event now_fields (old.number + 1) line.bytes (text_lines off.rest) event
      (within (old.number + 1) line.bytes (near old new line next) next.fits)
      ∙ ap (λ (n : ℕ). if is_blank_line line.bytes then script_of_lines now_fields (n + 1) (text_lines off.rest)
      else then_entry (old.number + 1) (entry_of (parts_of now_fields) line.bytes)
      (script_of_lines now_fields (n + 1) (text_lines off.rest))) (sym count))

  full_line : (old new : LinesState) (line : Line) (text : List ℕ) → IsNextLine old new line → (off : LineOff old new line.bytes text)
      → adds_field line.bytes ≡ false → is_blank_line line.bytes ≡ false
      → from_here old text ≡ then_entry (old.number + 1) (entry_of (parts_of now_fields) line.bytes) (from_here new off.rest)
  full_line old new line text next off event full =
      event_line old new line text next off event
      ∙ ap (λ (b : Bool). if b then from_here new off.rest
      else then_entry (old.number + 1) (entry_of (parts_of now_fields) line.bytes) (from_here new off.rest)) full

  field_line : (old new : LinesState) (line : Line) (text : List ℕ) → IsNextLine old new line → (off : LineOff old new line.bytes text)
      → adds_field line.bytes ≡ true
      → from_here old text ≡ then_field (old.number + 1) (field_added now_fields line.bytes)
      (λ (m : MemberData). script_of_lines (now_fields ++ m ∷ []) (new.number + 1) (text_lines off.rest))
  field_line old new line text next off adding =
      let count : new.number ≡ old.number + 1 = next.counted ∙ next.number.0 in
      ap (λ (l : List (List ℕ)). script_of_lines now_fields (old.number + 1) l) off.lines
      ∙ (script-field now_fields (old.number + 1) line.bytes (text_lines off.rest) adding
      (within (old.number + 1) line.bytes (near old new line next) next.fits)
      ∙ ap (λ (n : ℕ). then_field (old.number + 1) (field_added now_fields line.bytes)
      (λ (m : MemberData). script_of_lines (now_fields ++ m ∷ []) (n + 1) (text_lines off.rest))) (sym count))

  module _ (es : List TreesData) (old new : LinesState) (line : Line) (next : IsNextLine old new line) where
    pub read-blank : (text : Option (List ℕ)) → HasReadScript F text segments es old → adds_field line.bytes ≡ false
        → is_blank_line line.bytes ≡ true → HasReadScript F text segments es new
    read-blank None read event blank = tt
    read-blank (Some text) read event blank =
        let off = next_line (parts_of F) old new line read.rest read.left next in
        record {
          rest = off.rest;
          left = off.left;
          whole = read.whole ∙ ap (behind_segments segments es) (event_line old new line read.rest next off event
              ∙ ap (λ (b : Bool). if b then from_here new off.rest
              else then_entry (old.number + 1) (entry_of (parts_of now_fields) line.bytes) (from_here new off.rest)) blank);
        }

    pub read-entry : (text : Option (List ℕ)) (entry : TreesData) → HasReadScript F text segments es old → adds_field line.bytes ≡ false
        → is_blank_line line.bytes ≡ false → entry_of (parts_of now_fields) line.bytes ≡ Ok entry
        → HasReadScript F text segments (es ++ entry ∷ []) new
    read-entry None entry read event full is = tt
    read-entry (Some text) entry read event full is =
        let off = next_line (parts_of F) old new line read.rest read.left next in
        record {
          rest = off.rest;
          left = off.left;
          whole = read.whole
              ∙ (ap (behind_segments segments es) (full_line old new line read.rest next off event full
              ∙ ap (λ (r : Result TreesData TextKind). then_entry (old.number + 1) r (from_here new off.rest)) is)
              ∙ segments-entry segments es entry (from_here new off.rest));
        }

    pub read-bad : (text : Option (List ℕ)) (kind : TextKind) → HasReadScript F text segments es old → adds_field line.bytes ≡ false
        → is_blank_line line.bytes ≡ false → entry_of (parts_of now_fields) line.bytes ≡ Err kind
        → GivesScript F text (behind_segments segments [] (last_entries es (Some (record { line = line.number; kind = Event kind }))))
    read-bad None kind read event full is = tt
    read-bad (Some text) kind read event full is =
        let off = next_line (parts_of F) old new line read.rest read.left next in
        read.whole
        ∙ (ap (behind_segments segments es) (full_line old new line read.rest next off event full
        ∙ (ap (λ (r : Result TreesData TextKind). then_entry (old.number + 1) r (from_here new off.rest)) is
        ∙ ap (λ (n : ℕ). breaks_off n (Event kind)) (sym next.number.0)))
        ∙ breaks_here segments es line.number (Event kind))

    pub read-field : (text : Option (List ℕ)) (m : MemberData) (metas : List ClusterMeta) → HasReadScript F text segments es old
        → adds_field line.bytes ≡ true → field_added now_fields line.bytes ≡ Ok m
        → HasReadScript F text (segments ++ record { entries = es; field = m; metas = metas } ∷ []) [] new
    read-field None m metas read adding is = tt
    read-field (Some text) m metas read adding is =
        let off = next_line (parts_of F) old new line read.rest read.left next in
        let s : Segment = record { entries = es; field = m; metas = metas } in
        let rest = script_of_lines (now_fields ++ m ∷ []) (new.number + 1) (text_lines off.rest) in
        let fields : now_fields ++ m ∷ [] ≡ F ++ segment_fields (segments ++ s ∷ []) =
        append_assoc F (segment_fields segments) (m ∷ [])
        ∙ ap (λ (l : List MemberData). F ++ l) (sym (segment_fields-next segments s)) in
        record {
          rest = off.rest;
          left = off.left;
          whole = read.whole
              ∙ (ap (behind_segments segments es) (field_line old new line read.rest next off adding
              ∙ ap (λ (r : Result MemberData SchemaKind). then_field (old.number + 1) r
              (λ (x : MemberData). script_of_lines (now_fields ++ x ∷ []) (new.number + 1) (text_lines off.rest))) is)
              ∙ (segments-field segments es m metas rest
              ∙ ap (λ (l : List MemberData). behind_segments (segments ++ s ∷ []) []
              (script_of_lines l (new.number + 1) (text_lines off.rest))) fields));
        }

    pub read-no_field : (text : Option (List ℕ)) (kind : SchemaKind) → HasReadScript F text segments es old → adds_field line.bytes ≡ true
        → field_added now_fields line.bytes ≡ Err kind
        → GivesScript F text (behind_segments segments [] (last_entries es (Some (record { line = line.number; kind = Field kind }))))
    read-no_field None kind read adding is = tt
    read-no_field (Some text) kind read adding is =
        let off = next_line (parts_of F) old new line read.rest read.left next in
        read.whole
        ∙ (ap (behind_segments segments es) (field_line old new line read.rest next off adding
        ∙ (ap (λ (r : Result MemberData SchemaKind). then_field (old.number + 1) r
        (λ (x : MemberData). script_of_lines (now_fields ++ x ∷ []) (new.number + 1) (text_lines off.rest))) is
        ∙ ap (λ (n : ℕ). breaks_off n (Field kind)) (sym next.number.0)))
        ∙ breaks_here segments es line.number (Field kind))

    -- a line that adds a field, or is to add one, ends the segment
    ends_segment : (number : ℕ) (r : Result MemberData SchemaKind) (rest : MemberData → Script) → EndsSegment (then_field number r rest)
    ends_segment number (Ok m) rest = tt
    ends_segment number (Err kind) rest = tt

    pub read-ended : (text : Option (List ℕ)) → HasReadScript F text segments es old → adds_field line.bytes ≡ true
        → (behind : Script) × GivesScript F text (behind_segments segments es behind) × EndsSegment behind
    read-ended None read adding = (last_entries [] None, tt, tt)
    read-ended (Some text) read adding =
        let off = next_line (parts_of F) old new line read.rest read.left next in (
          _,
          read.whole ∙ ap (behind_segments segments es) (field_line old new line read.rest next off adding),
          ends_segment (old.number + 1) (field_added now_fields line.bytes)
              (λ (m : MemberData). script_of_lines (now_fields ++ m ∷ []) (new.number + 1) (text_lines off.rest)),
        )

  module _ (es : List TreesData) (now : LinesState) where
    pub read-end : (text : Option (List ℕ)) → HasReadScript F text segments es now → IsAtEnd now.left
        → GivesScript F text (behind_segments segments [] (last_entries es None))
    read-end None read end = tt
    read-end (Some text) read end =
        let none : read.rest ≡ [] = subst (λ (o : Option (List ℕ)). IsAtEnd o) read.left end in
        read.whole ∙ (ap (λ (l : List ℕ). behind_segments segments es (from_here now l)) none ∙ ends_here segments es)

    pub read-too_long : (text : Option (List ℕ)) (line : ℕ) → HasReadScript F text segments es now → line ≡ now.number + 1
        → BeginsTooLong now.left ⊎ ((max_number < line) × HasMore now.left)
        → GivesScript F text (behind_segments segments [] (last_entries es (Some (record { line = line; kind = Event TooLong }))))
    read-too_long None line read is long = tt
    read-too_long (Some text) line read is long =
        let here : BeginsTooLong (Some read.rest) ⊎ ((max_number < line) × HasMore (Some read.rest)) =
        subst (λ (o : Option (List ℕ)). BeginsTooLong o ⊎ ((max_number < line) × HasMore o)) read.left long in
        let first = bad_next (parts_of F) line read.rest here in
        read.whole
        ∙ (ap (λ (n : ℕ). behind_segments segments es (script_of_lines now_fields n (text_lines read.rest))) (sym is)
        ∙ (ap (λ (l : List (List ℕ)). behind_segments segments es (script_of_lines now_fields line l)) first.are
        ∙ (ap (behind_segments segments es) (script-beyond now_fields line first.line first.others
        (beyond line first.line first.holds))
        ∙ breaks_here segments es line (Event TooLong))))

    -- whatever comes, what is read begins with what was read
    pub read-ahead : (text : Option (List ℕ)) → HasReadScript F text segments es now
        → (rest : Script) × GivesScript F text (behind_segments segments es rest)
    read-ahead None read = (last_entries [] None, tt)
    read-ahead (Some text) read = (from_here now read.rest, read.whole)

pub read-nothing : (F : List MemberData) (text : Option (List ℕ)) (now : LinesState) → now.left ≡ text → now.number ≡ 0
    → HasReadScript F text [] [] now
read-nothing F None now is none = tt
read-nothing F (Some text) now is none = record {
  rest = text;
  left = is;
  whole = sym (with_entries-none (read_script F text))
      ∙ (ap (λ (l : List MemberData). with_entries [] (script_of_lines l 1 (text_lines text))) (sym (append-nil F))
      ∙ ap (λ (n : ℕ). with_entries [] (script_of_lines (F ++ []) (n + 1) (text_lines text))) (sym none));
}
