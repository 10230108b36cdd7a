-- A schema text: a field a line, with empty lines between.
use Rattle.std.specs.Prelude.{ℕ, List, [], ◌∷◌, ◌++◌, ◌+◌, ◌^◌, length, Option, Some, None, Result, Ok, Err, nat_le, nat_lt, ◌==◌}
use Rattle.std.specs.Prelude.{if◌then◌else◌}
use Rattle.std.specs.List.{slice_split}
use Rattle.nt_lists.specs.Chaining.{◌>>=◌}
use Rattle.nt_types.specs.ShapeData.{ShapeData, ShapesData, MembersData, MemberData, bool, char, byte, int, text, list, maybe, fields}
use Rattle.nt_types.specs.ShapeData.{tuple, choice, no_kinds, kind, no_parts, part}
use Rattle.nt_types.specs.Names.{has_name}
use Rattle.nt_types.specs.Limits.{max_text, max_fields}
use Rattle.nt_types.specs.Lines.{member_of, is_blank_line, split_line, type_of}
use Rattle.nt_types.specs.declared.fault.SchemaKind.{SchemaKind}
use Rattle.nt_types.specs.declared.fault.SchemaKind.TheVariants.{TooLong, BadName, Repeated, TooMany, Empty}
use Rattle.nt_types.specs.declared.fault.SchemaFault.{SchemaFault}

-- how many fields a kind makes, those inside of others included
abbrev mutual
  pub field_count : ShapeData → ℕ
  field_count bool = 1
  field_count char = 1
  field_count byte = 1
  field_count (int bits signed) = 1
  field_count text = 1
  field_count (list k) = field_count k + 1
  field_count (maybe k) = field_count k + 1
  field_count (fields ps) = parts_count ps + 1
  field_count (tuple ks) = kinds_count ks + 1
  field_count (choice ks) = kinds_count ks + 1

  pub kinds_count : ShapesData → ℕ
  kinds_count no_kinds = 0
  kinds_count (kind k ks) = field_count k + kinds_count ks

  pub parts_count : MembersData → ℕ
  parts_count no_parts = 0
  parts_count (part n k ps) = field_count k + parts_count ps

-- a field beside so many
abbrev pub within_count : ℕ → List ℕ → Result ShapeData SchemaKind → Result MemberData SchemaKind
within_count before name (Ok k) = if nat_le (before + field_count k) max_fields then Ok (record { name = name; of = k }) else Err TooMany
within_count before name (Err e) = Err e

-- the field of a name and the text of its type
abbrev pub field_split : List (List ℕ) → ℕ → Option (List ℕ × List ℕ) → Result MemberData SchemaKind
field_split seen before None = Err BadName
field_split seen before (Some x) = if has_name seen x.0 then Err Repeated else within_count before x.0 (type_of x.1)

-- the field of a line, beside these names and so many fields before it
abbrev pub field_of : List (List ℕ) → ℕ → List ℕ → Result MemberData SchemaKind
field_of seen before line = field_split seen before (split_line line)

-- a kind under a name
abbrev pub part_under : List ℕ → ShapeData → MemberData
part_under name k = record { name = name; of = k }

-- a fault at a line
abbrev pub at_line : ℕ → SchemaKind → SchemaFault
at_line n k = record { line = n; kind = k }

-- the same, or the fault at a line
abbrev pub at_result : {A : Type 0} → ℕ → Result A SchemaKind → Result A SchemaFault
at_result n (Ok x) = Ok x
at_result n (Err k) = Err (at_line n k)

-- the member that a line spells, or why it spells none
abbrev pub member_text : List ℕ → Result MemberData SchemaFault
member_text line = at_result 0 (member_of line)

-- what was read up to a line
pub record ProgressData : Type 0 where
  pub line : ℕ
  pub seen : List (List ℕ)
  pub count : ℕ
  pub parts : List MemberData

-- one line further, without a field
abbrev pub next_line : ProgressData → ProgressData
next_line s = record s { line = s.line + 1 }

-- one line further, with its field
abbrev pub with_field : ProgressData → MemberData → ProgressData
with_field s p = record { line = s.line + 1; seen = p.name ∷ s.seen; count = s.count + field_count p.of; parts = s.parts ++ p ∷ [] }

-- one line further, or the fault of the line
abbrev pub with_result : ProgressData → Result MemberData SchemaKind → Result ProgressData SchemaFault
with_result s (Ok p) = Ok (with_field s p)
with_result s (Err k) = Err (at_line s.line k)

-- one line further in a text
abbrev pub take_line : ProgressData → List ℕ → Result ProgressData SchemaFault
take_line s line = if is_blank_line line then Ok (next_line s) else with_result s (field_of s.seen s.count line)

-- the fields at the end of a text, of which there is one at least
abbrev pub all_fields : List MemberData → Result (List MemberData) SchemaFault
all_fields [] = Err (at_line 0 Empty)
all_fields (p ∷ ps) = Ok (p ∷ ps)

-- the fields of the lines that are left, behind those that were read
abbrev pub take_lines : ProgressData → List (List ℕ) → Result (List MemberData) SchemaFault
take_lines s [] = all_fields s.parts
take_lines s (l ∷ ls) = take_line s l >>= λ t. take_lines t ls

-- before the first line
abbrev pub first_line : ProgressData
first_line = record { line = 1; seen = []; count = 0; parts = [] }

-- the fields that a text spells, or its first fault
abbrev pub schema_text : List ℕ → Result (List MemberData) SchemaFault
schema_text bytes =
    if nat_lt max_text (length bytes) then Err (at_line 0 TooLong) else take_lines first_line (slice_split (λ b. b == 10) bytes)
