-- What is read of a script, line by line.
use Rattle.std.proofs.Common.{◌≡◌, ℕ, ◌+◌, Bool, true, false, List, [], ◌∷◌, ◌++◌, length, Option, Some, None, Result, Ok, Err}
use Rattle.std.proofs.Common.{refl, sym, ap, ◌∙◌, append_assoc, append-nil, arith}
use Rattle.std.specs.Prelude.{if◌then◌else◌}
use Rattle.nt_types.specs.ShapeData.{MemberData, parts_of}
use Rattle.nt_types.specs.TreeData.{TreesData}
use Rattle.nt_types.specs.Lines.{is_blank_line}
use Rattle.nt_book.specs.declared.meta.ClusterMeta.{ClusterMeta}
use Rattle.nt_event.specs.Entry.{entry_of}
use Rattle.nt_event.specs.declared.fault.TextKind.{TextKind}
use Rattle.nt_event.specs.declared.fault.TextKind.TheVariants.{TooLong}
use Rattle.nt_dealing.specs.EventText.{BadLine, EventText, ends_badly, then_lines, is_beyond, entries_of_lines}
use Rattle.nt_script.specs.declared.error.LineFault.TheVariants.{Event}
use Rattle.nt_script.specs.Script.{Script, last_entries, and_field, with_entries, breaks_off, unless_bad, then_segments, Addition}
use Rattle.nt_script.specs.Script.{adds_field, first_segment, additions, then_field, field_added, read_additions, script_of_lines}
use Rattle.nt_script.specs.Reading.{Segment, behind_segments}

pub with_entries-none : (s : Script) → with_entries [] s ≡ s
with_entries-none (last_entries es bad) = refl
with_entries-none (and_field es m rest) = refl

pub with_entries-more : (es fs : List TreesData) (s : Script) → with_entries es (with_entries fs s) ≡ with_entries (es ++ fs) s
with_entries-more es fs (last_entries gs bad) = ap (λ (l : List TreesData). last_entries l bad) (sym (append_assoc es fs gs))
with_entries-more es fs (and_field gs m rest) = ap (λ (l : List TreesData). and_field l m rest) (sym (append_assoc es fs gs))

-- one entry more in front of a segment
unless_bad-next : (e : TreesData) (es : List TreesData) (bad : Option BadLine) (rest : Script)
    → unless_bad (e ∷ es) bad rest ≡ with_entries (e ∷ []) (unless_bad es bad rest)
unless_bad-next e es None rest = sym (with_entries-more (e ∷ []) es rest)
unless_bad-next e es (Some b) rest = sym (with_entries-more (e ∷ []) es (breaks_off b.line (Event b.kind)))

-- an entry, and what is read behind it, or what is wrong with its line
abbrev pub then_entry : ℕ → Result TreesData TextKind → Script → Script
then_entry number (Ok e) rest = with_entries (e ∷ []) rest
then_entry number (Err kind) rest = breaks_off number (Event kind)

then_lines-script : (number : ℕ) (r : Result TreesData TextKind) (read : EventText) (rest : Script)
    → then_segments (then_lines number r read) rest ≡ then_entry number r (then_segments read rest)
then_lines-script number (Ok e) read rest = unless_bad-next e read.entries read.bad rest
then_lines-script number (Err kind) read rest = refl

module _ (F : List MemberData) where
  -- a line that adds event field belongs to the first segment
  event_first : (number : ℕ) (line : List ℕ) (lines : List (List ℕ)) → adds_field line ≡ false
      → script_of_lines F number (line ∷ lines)
      ≡ then_segments (entries_of_lines (parts_of F) number (line ∷ first_segment lines))
      (read_additions F (number + 1 + length (first_segment lines)) (additions lines))
  event_first number line lines event =
      let first : first_segment (line ∷ lines) ≡ line ∷ first_segment lines =
      ap (λ (b : Bool). if b then [] else line ∷ first_segment lines) event in
      let others : additions (line ∷ lines) ≡ additions lines =
      ap (λ (b : Bool). if b then record { line = line; behind = first_segment lines } ∷ additions lines else additions lines) event in
      let count : number + length (line ∷ first_segment lines) ≡ number + 1 + length (first_segment lines) = omega arith in
      ap (λ (l : List (List ℕ)). then_segments (entries_of_lines (parts_of F) number l)
      (read_additions F (number + length l) (additions (line ∷ lines)))) first
      ∙ (ap (λ (l : List Addition). then_segments (entries_of_lines (parts_of F) number (line ∷ first_segment lines))
      (read_additions F (number + length (line ∷ first_segment lines)) l)) others
      ∙ ap (λ (n : ℕ). then_segments (entries_of_lines (parts_of F) number (line ∷ first_segment lines))
      (read_additions F n (additions lines))) count)

  -- a line of events comes first
  pub script-event : (number : ℕ) (line : List ℕ) (lines : List (List ℕ)) → adds_field line ≡ false → is_beyond number line ≡ false
      → script_of_lines F number (line ∷ lines)
      ≡ (if is_blank_line line then script_of_lines F (number + 1) lines
      else then_entry number (entry_of (parts_of F) line) (script_of_lines F (number + 1) lines))
  script-event number line lines event near =
      let P = parts_of F in
      let rest = read_additions F (number + 1 + length (first_segment lines)) (additions lines) in
      let more = entries_of_lines P (number + 1) (first_segment lines) in
      event_first number line lines event
      ∙ (ap (λ (b : Bool). then_segments (if b then ends_badly number TooLong else (if is_blank_line line then more else then_lines number
      (entry_of P line) more)) rest) near
      ∙ at rest more (is_blank_line line) (entry_of P line))
    where
      at : (rest : Script) (more : EventText) (blank : Bool) (r : Result TreesData TextKind)
          → then_segments (if blank then more else then_lines number r more) rest
          ≡ (if blank then then_segments more rest else then_entry number r (then_segments more rest))
      at rest more true r = refl
      at rest more false r = then_lines-script number r more rest

  -- a line that adds a field comes first
  addition_first : (number : ℕ) (line : List ℕ) (lines : List (List ℕ)) → adds_field line ≡ true
      → script_of_lines F number (line ∷ lines)
      ≡ read_additions F number (record { line = line; behind = first_segment lines } ∷ additions lines)
  addition_first number line lines adding =
      let a : Addition = record { line = line; behind = first_segment lines } in
      let first : first_segment (line ∷ lines) ≡ [] = ap (λ (b : Bool). if b then [] else line ∷ first_segment lines) adding in
      let others : additions (line ∷ lines) ≡ a ∷ additions lines =
      ap (λ (b : Bool). if b then a ∷ additions lines else additions lines) adding in
      let count : number + 0 ≡ number = omega arith in
      ap (λ (l : List (List ℕ)). then_segments (entries_of_lines (parts_of F) number l)
      (read_additions F (number + length l) (additions (line ∷ lines)))) first
      ∙ (ap (λ (l : List Addition). with_entries [] (read_additions F (number + 0) l)) others
      ∙ (ap (λ (n : ℕ). with_entries [] (read_additions F n (a ∷ additions lines))) count
      ∙ with_entries-none (read_additions F number (a ∷ additions lines))))

  pub script-field : (number : ℕ) (line : List ℕ) (lines : List (List ℕ)) → adds_field line ≡ true → is_beyond number line ≡ false
      → script_of_lines F number (line ∷ lines)
      ≡ then_field number (field_added F line) (λ (m : MemberData). script_of_lines (F ++ m ∷ []) (number + 1) lines)
  script-field number line lines adding near =
      addition_first number line lines adding
      ∙ ap (λ (b : Bool). if b then breaks_off number (Event TooLong)
      else then_field number (field_added F line) (λ (m : MemberData). script_of_lines (F ++ m ∷ []) (number + 1) lines)) near

  -- a line that is too long, or whose number is too large
  pub script-beyond : (number : ℕ) (line : List ℕ) (lines : List (List ℕ)) → is_beyond number line ≡ true
      → script_of_lines F number (line ∷ lines) ≡ breaks_off number (Event TooLong)
  script-beyond number line lines far = at (adds_field line) refl
    where
      at : (b : Bool) → adds_field line ≡ b → script_of_lines F number (line ∷ lines) ≡ breaks_off number (Event TooLong)
      at true adding =
          addition_first number line lines adding
          ∙ ap (λ (b : Bool). if b then breaks_off number (Event TooLong)
          else then_field number (field_added F line) (λ (m : MemberData). script_of_lines (F ++ m ∷ []) (number + 1) lines)) far
      at false event =
          let P = parts_of F in
          let rest = read_additions F (number + 1 + length (first_segment lines)) (additions lines) in
          let more = entries_of_lines P (number + 1) (first_segment lines) in
          event_first number line lines event
          ∙ ap (λ (b : Bool). then_segments (if b then ends_badly number TooLong else (if is_blank_line line then more
          else then_lines number (entry_of P line) more)) rest) far

-- one entry more of the segment that goes on
pub segments-entry : (segments : List Segment) (es : List TreesData) (e : TreesData) (rest : Script)
    → behind_segments segments es (with_entries (e ∷ []) rest) ≡ behind_segments segments (es ++ e ∷ []) rest
segments-entry [] es e rest = with_entries-more es (e ∷ []) rest
segments-entry (s ∷ segments) es e rest = ap (λ (x : Script). and_field s.entries s.field x) (segments-entry segments es e rest)

-- one segment more is over
pub segments-field : (segments : List Segment) (es : List TreesData) (m : MemberData) (metas : List ClusterMeta) (rest : Script)
    → behind_segments segments es (and_field [] m rest)
    ≡ behind_segments (segments ++ record { entries = es; field = m; metas = metas } ∷ []) [] rest
segments-field [] es m metas rest =
    ap (λ (l : List TreesData). and_field l m rest) (append-nil es)
    ∙ ap (λ (x : Script). and_field es m x) (sym (with_entries-none rest))
segments-field (s ∷ segments) es m metas rest =
    ap (λ (x : Script). and_field s.entries s.field x) (segments-field segments es m metas rest)
