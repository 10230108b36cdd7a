-- What is read of a script: lines of events, and lines that each add a field for the events behind them.
use Rattle.std.specs.Prelude.{ℕ, ◌+◌, ◌==◌, Bool, false, List, [], ◌∷◌, ◌++◌, map, drop, length, nat_lt, Option, Some, None}
use Rattle.std.specs.Prelude.{Result, Ok, Err, if◌then◌else◌}
use Rattle.std.specs.List.{prefix_len}
use Rattle.nt_types.specs.ShapeData.{MemberData, parts_of}
use Rattle.nt_types.specs.TreeData.{TreesData}
use Rattle.nt_types.specs.Words.{is_blank}
use Rattle.nt_types.specs.Names.{has_name}
use Rattle.nt_types.specs.Limits.{max_fields}
use Rattle.nt_types.specs.Lines.{member_of}
use Rattle.nt_types.specs.Schema.{field_count, parts_count}
use Rattle.nt_types.specs.declared.fault.SchemaKind.{SchemaKind}
use Rattle.nt_types.specs.declared.fault.SchemaKind.TheVariants.{Repeated, TooMany}
use Rattle.nt_event.specs.declared.fault.TextKind.TheVariants.{TooLong}
use Rattle.nt_dealing.specs.EventText.{BadLine, EventText, text_lines, is_beyond, entries_of_lines}
use Rattle.nt_script.specs.declared.error.LineFault.{LineFault}
use Rattle.nt_script.specs.declared.error.LineFault.TheVariants.{Event, Field}

-- a line adds a field where a plus comes first
abbrev pub adds_field : List ℕ → Bool
adds_field [] = false
adds_field (byte ∷ bytes) = byte == 43

-- what such a line says of its field: what stands behind the plus and the spaces and tabs that follow it
abbrev pub behind_plus : List ℕ → List ℕ
behind_plus line = let rest = drop 1 line in drop (prefix_len is_blank rest) rest

-- a field stands beside others where none of them has its name, and all of them are not too many
abbrev pub beside : List MemberData → MemberData → Result MemberData SchemaKind
beside F m =
    if has_name (map (λ (p : MemberData). p.name) F) m.name then Err Repeated
    else if nat_lt max_fields (parts_count (parts_of F) + field_count m.of) then Err TooMany
    else Ok m

-- the same of a field that was read, or what was wrong with it
abbrev pub read_beside : List MemberData → Result MemberData SchemaKind → Result MemberData SchemaKind
read_beside F (Ok m) = beside F m
read_beside F (Err kind) = Err kind

-- the field that a line adds to others
abbrev pub field_added : List MemberData → List ℕ → Result MemberData SchemaKind
field_added F line = read_beside F (member_of (behind_plus line))

-- a line that is bad: its number, from 1, and what is wrong with it
pub record BadScriptLine : Type 0 where
  pub line : ℕ
  pub kind : LineFault

-- what is read: entries, and then the end or a bad line; or entries, a field, and what is read behind it
pub data Script : Type 0 where
  last_entries : List TreesData → Option BadScriptLine → Script
  and_field : List TreesData → MemberData → Script → Script

-- entries, and then what is read behind them
abbrev pub with_entries : List TreesData → Script → Script
with_entries es (last_entries fs bad) = last_entries (es ++ fs) bad
with_entries es (and_field fs m rest) = and_field (es ++ fs) m rest

-- nothing more is read behind a bad line
abbrev pub breaks_off : ℕ → LineFault → Script
breaks_off number kind = last_entries [] (Some (record { line = number; kind = kind }))

-- the same behind entries, where one of their lines is bad, or else what is read behind these
abbrev pub unless_bad : List TreesData → Option BadLine → Script → Script
unless_bad es None rest = with_entries es rest
unless_bad es (Some b) rest = with_entries es (breaks_off b.line (Event b.kind))

-- the entries of a segment, and what is read behind it
abbrev pub then_segments : EventText → Script → Script
then_segments read rest = unless_bad read.entries read.bad rest

-- a line that adds a field, and the lines of events behind it
pub record Addition : Type 0 where
  pub line : List ℕ
  pub behind : List (List ℕ)

-- the lines of events in front of the first line that adds a field
abbrev pub first_segment : List (List ℕ) → List (List ℕ)
first_segment [] = []
first_segment (line ∷ lines) = if adds_field line then [] else line ∷ first_segment lines

-- each line that adds a field, with the segment behind it
abbrev pub additions : List (List ℕ) → List Addition
additions [] = []
additions (line ∷ lines) =
    if adds_field line then record { line = line; behind = first_segment lines } ∷ additions lines else additions lines

-- a field that a line of this number adds, and what is read by it too
abbrev pub then_field : ℕ → Result MemberData SchemaKind → (MemberData → Script) → Script
then_field number (Ok m) rest = and_field [] m (rest m)
then_field number (Err kind) rest = breaks_off number (Field kind)

-- the segments behind the first, where the first of their lines has this number: each is read by the fields before it and its own
abbrev pub read_additions : List MemberData → ℕ → List Addition → Script
read_additions F number [] = last_entries [] None
read_additions F number (a ∷ others) =
    if is_beyond number a.line then breaks_off number (Event TooLong)
    else then_field number (field_added F a.line) (λ (m : MemberData).
    then_segments (entries_of_lines (parts_of (F ++ m ∷ [])) (number + 1) a.behind)
    (read_additions (F ++ m ∷ []) (number + 1 + length a.behind) others))

-- lines whose numbers go on from this one, by these fields and those that they add
abbrev pub script_of_lines : List MemberData → ℕ → List (List ℕ) → Script
script_of_lines F number lines =
    then_segments (entries_of_lines (parts_of F) number (first_segment lines))
    (read_additions F (number + length (first_segment lines)) (additions lines))

-- a text, by the fields of a schema
abbrev pub read_script : List MemberData → List ℕ → Script
read_script F text = script_of_lines F 1 (text_lines text)
