-- The entries of an event text, up to its first bad line.
use Rattle.std.specs.Prelude.{ℕ, ◌+◌, ◌==◌, ◌||◌, Bool, cond, List, [], ◌∷◌, length, nat_lt, Option, Some, None, Result, Ok, Err}
use Rattle.std.specs.Prelude.{if◌then◌else◌}
use Rattle.std.specs.List.{onto_first}
use Rattle.nt_types.specs.ShapeData.{MembersData}
use Rattle.nt_types.specs.TreeData.{TreesData}
use Rattle.nt_types.specs.Lines.{is_blank_line}
use Rattle.nt_event.specs.Limits.{max_line, max_number}
use Rattle.nt_event.specs.Entry.{entry_of}
use Rattle.nt_event.specs.declared.fault.TextKind.{TextKind}
use Rattle.nt_event.specs.declared.fault.TextKind.TheVariants.{TooLong}

-- the lines of a text, without their LFs, which the last may lack
abbrev pub text_lines : List ℕ → List (List ℕ)
text_lines [] = []
text_lines (byte ∷ bytes) = cond (byte == 10) ([] ∷ text_lines bytes) (onto_first byte (text_lines bytes))

-- a line that gives no entry: its number, from 1, and what is wrong with it
pub record BadLine : Type 0 where
  pub line : ℕ
  pub kind : TextKind

-- what a text gives: the entries before its first bad line, and that line, if there is one
pub record EventText : Type 0 where
  pub entries : List TreesData
  pub bad : Option BadLine

-- nothing more is read behind a bad line
abbrev pub ends_badly : ℕ → TextKind → EventText
ends_badly number kind = record { entries = []; bad = Some (record { line = number; kind = kind }) }

-- an entry, and what the lines behind its line give
abbrev pub then_lines : ℕ → Result TreesData TextKind → EventText → EventText
then_lines number (Ok entry) rest = record { entries = entry ∷ rest.entries; bad = rest.bad }
then_lines number (Err kind) rest = ends_badly number kind

-- too many bytes, or too large a number
abbrev pub is_beyond : ℕ → List ℕ → Bool
is_beyond number line = nat_lt max_number number || nat_lt max_line (length line)

-- the entries of lines whose numbers go on from this one; blank lines have none
abbrev pub entries_of_lines : MembersData → ℕ → List (List ℕ) → EventText
entries_of_lines F number [] = record { entries = []; bad = None }
entries_of_lines F number (line ∷ lines) =
    if is_beyond number line then ends_badly number TooLong
    else if is_blank_line line then entries_of_lines F (number + 1) lines
    else then_lines number (entry_of F line) (entries_of_lines F (number + 1) lines)

-- what an event text gives, by the fields of a schema
abbrev pub read_events : MembersData → List ℕ → EventText
read_events F text = entries_of_lines F 1 (text_lines text)
