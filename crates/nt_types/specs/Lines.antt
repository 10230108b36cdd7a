-- One line of a schema text: a name, blanks, a type, and spaces behind it.
use Rattle.std.specs.Prelude.{ℕ, Bool, false, List, [], ◌∷◌, ◌-◌, ◌+◌, length, take, drop, max, reverse, Option, Some, None, Result, Ok}
use Rattle.std.specs.Prelude.{Err, nat_le, ◌==◌, ◌&&◌, ◌||◌, if◌then◌else◌}
use Rattle.std.specs.List.{prefix_len, list_all}
use Rattle.nt_types.specs.ShapeData.{ShapeData, MemberData}
use Rattle.nt_types.specs.Words.{is_word_byte, is_blank, is_space, is_name}
use Rattle.nt_types.specs.Reading.{read_kind}
use Rattle.nt_types.specs.Limits.{max_depth}
use Rattle.nt_types.specs.Spelling.{depth}
use Rattle.nt_types.specs.declared.fault.SchemaKind.{SchemaKind}
use Rattle.nt_types.specs.declared.fault.SchemaKind.TheVariants.{BadName, BadType, TooDeep}

-- the most constructs that are open at a place, from a place with so many open, and so many before
abbrev pub most_open : ℕ → ℕ → List ℕ → ℕ
most_open now most [] = most
most_open now most (b ∷ bs) = if (b == 60) || (b == 123) then most_open (now + 1) (max most (now + 1)) bs
    else if (b == 62) || (b == 125) then most_open (now - 1) most bs
    else most_open now most bs

-- a kind that is at most 32 deep, or what is wrong
abbrev pub within_depth : Option ShapeData → Result ShapeData SchemaKind
within_depth None = Err BadType
within_depth (Some k) = if nat_le (depth k) max_depth then Ok k else Err TooDeep

-- the kind that a text spells, at most 32 deep
abbrev pub type_of : List ℕ → Result ShapeData SchemaKind
type_of text = within_depth (read_kind text)

-- nothing but spaces, tabs and a CR
abbrev pub is_blank_line : List ℕ → Bool
is_blank_line line = list_all is_space line

-- without the spaces at its end
abbrev pub trimmed : List ℕ → List ℕ
trimmed text = take (length text - prefix_len is_space (reverse text)) text

-- a space or a tab comes first
abbrev pub begins_blank : List ℕ → Bool
begins_blank [] = false
begins_blank (b ∷ bs) = is_blank b

-- what follows a name and its blanks, up to the spaces at the end
abbrev pub type_text : List ℕ → List ℕ
type_text rest = trimmed (drop (prefix_len is_blank rest) rest)

-- a name and what follows it, where it is one and a blank comes next
abbrev pub split_at : List ℕ → List ℕ → Option (List ℕ × List ℕ)
split_at name rest = if is_name name && begins_blank rest then Some (name, type_text rest) else None

-- the name and the text of the type, where a name and a blank come first
abbrev pub split_line : List ℕ → Option (List ℕ × List ℕ)
split_line line = let n = prefix_len is_word_byte line in split_at (take n line) (drop n line)

-- a kind under a name, or what is wrong
abbrev pub under_name : List ℕ → Result ShapeData SchemaKind → Result MemberData SchemaKind
under_name name (Ok k) = Ok (record { name = name; of = k })
under_name name (Err e) = Err e

-- the member of a name and the text of its type
abbrev pub member_at : Option (List ℕ × List ℕ) → Result MemberData SchemaKind
member_at None = Err BadName
member_at (Some x) = under_name x.0 (type_of x.1)

-- the member that a line spells
abbrev pub member_of : List ℕ → Result MemberData SchemaKind
member_of line = member_at (split_line line)
