-- How far a text was read, where it is told.
use Rattle.std.specs.Prelude.{◌≡◌, ℕ, ◌+◌, List, ◌++◌, Option, Some, None}
use Rattle.nt_types.specs.ShapeData.{MembersData}
use Rattle.nt_types.specs.TreeData.{TreesData}
use Rattle.nt_outside.specs.Source.{SourceState}
use Rattle.nt_event.specs.declared.lines.LineReader.{LineReader}
use Rattle.nt_event.specs.Lines.{LinesState, lines_state}
use Rattle.nt_dealing.specs.EventText.{BadLine, EventText, text_lines, entries_of_lines, read_events}

-- what a reader has still to give
abbrev pub left_of : {S : Type 0} → (S → SourceState) → LineReader S → LinesState
left_of state r = lines_state (state r.source) r

-- these entries, and then what more lines give
abbrev pub behind : List TreesData → EventText → EventText
behind entries rest = record { entries = entries ++ rest.entries; bad = rest.bad }

-- what is left of a text gives what comes behind these entries
pub record GivesRest (F : MembersData) (text : List ℕ) (entries : List TreesData) (now : LinesState) : Type 0 where
  pub rest : List ℕ
  pub left : now.left ≡ Some rest
  pub whole : read_events F text ≡ behind entries (entries_of_lines F (now.number + 1) (text_lines rest))

-- these entries were read, if the text is told
abbrev pub HasRead : MembersData → Option (List ℕ) → List TreesData → LinesState → Type 0
HasRead F None entries now = Unit {0}
HasRead F (Some text) entries now = GivesRest F text entries now

-- the text gives just these entries, up to its end or a bad line, if it is told
abbrev pub GivesJust : MembersData → Option (List ℕ) → List TreesData → Option BadLine → Type 0
GivesJust F None entries bad = Unit {0}
GivesJust F (Some text) entries bad = read_events F text ≡ record { entries = entries; bad = bad }
