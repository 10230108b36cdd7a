-- The texts that a file is written of: the entries of each, and the chunks that they make.
use Rattle.std.specs.Prelude.{◌≡◌, ℕ, ◌<◌, List, map, Some, None, slice_get}
use Rattle.std.specs.List.{AllByRecursion, flat_map}
use Rattle.nt_lists.specs.Chunks.{chunks}
use Rattle.nt_types.specs.ShapeData.{MemberData, parts_of}
use Rattle.nt_types.specs.TreeData.{TreesData}
use Rattle.nt_event.specs.declared.fault.TextKind.{TextKind}
use Rattle.nt_dealing.specs.EventText.{EventText, read_events}

-- what an event text gives by these fields
abbrev pub events_of : List MemberData → List ℕ → EventText
events_of fields text = read_events (parts_of fields) text

-- the chunks of one text: the entries before its first bad line, in groups of so many
abbrev pub text_chunks : ℕ → List MemberData → List ℕ → List (List TreesData)
text_chunks most fields text = chunks most (events_of fields text).entries

-- the chunks of each text
abbrev pub chunks_of : ℕ → List MemberData → List (List ℕ) → List (List (List TreesData))
chunks_of most fields texts = map (text_chunks most fields) texts

-- the chunks of contexts, one behind the other
abbrev pub joined_chunks : List (List (List TreesData)) → List (List TreesData)
joined_chunks chunks = flat_map (λ own. own) chunks

-- all of these chunks
abbrev pub all_chunks : ℕ → List MemberData → List (List ℕ) → List (List TreesData)
all_chunks most fields texts = joined_chunks (chunks_of most fields texts)

-- no text has a bad line
abbrev pub AreSound : List MemberData → List (List ℕ) → Type 0
AreSound fields texts = AllByRecursion (λ text. (events_of fields text).bad ≡ None) texts

-- the text of this number has this first bad line, and none before it has one
pub record IsFirstBad (fields : List MemberData) (texts : List (List ℕ)) (input line : ℕ) (kind : TextKind) : Type 0 where
  pub text : List ℕ
  pub at : slice_get texts input ≡ Some text
  pub bad : (events_of fields text).bad ≡ Some (record { line = line; kind = kind })
  pub lower : (j : ℕ) (other : List ℕ) → j < input → slice_get texts j ≡ Some other → (events_of fields other).bad ≡ None
