-- How a schema text spells fields, and what is wrong with a text that spells none: its first fault.
use Rattle.std.specs.Prelude.{ℕ, true, false, not, ◌≡◌, ◌<◌, ◌≤◌, ◌+◌, ◌==◌, ◌⊎◌, List, [], ◌∷◌, ◌++◌, length, map}
use Rattle.std.specs.List.{slice_split, filter}
use Rattle.nt_types.specs.ShapeData.{MemberData, parts_of}
use Rattle.nt_types.specs.Names.{has_name}
use Rattle.nt_types.specs.Limits.{max_text, max_fields}
use Rattle.nt_types.specs.Lines.{is_blank_line}
use Rattle.nt_types.specs.LineSpelling.{SpellsMember, IsMember, BeginsWithName, HasFault}
use Rattle.nt_types.specs.Schema.{field_count, parts_count}
use Rattle.nt_types.specs.Rules.{AreFields}
use Rattle.nt_types.specs.declared.fault.SchemaFault.{SchemaFault}
use Rattle.nt_types.specs.declared.fault.SchemaKind.{SchemaKind}
use Rattle.nt_types.specs.declared.fault.SchemaKind.TheVariants.{TooLong, BadName, Repeated, BadType, TooDeep, TooMany, Empty}

-- the lines of a text, without their LFs
abbrev pub lines_of : List ℕ → List (List ℕ)
lines_of text = slice_split (λ b. b == 10) text

-- the lines that aren't blank
abbrev pub full_lines : List (List ℕ) → List (List ℕ)
full_lines lines = filter (λ l. not (is_blank_line l)) lines

-- as many lines as members, and each spells its one
abbrev pub SpellEach : List (List ℕ) → List MemberData → Type 0
SpellEach [] [] = Unit {0}
SpellEach [] (p ∷ ps) = ⊥
SpellEach (l ∷ ls) [] = ⊥
SpellEach (l ∷ ls) (p ∷ ps) = SpellsMember l p × SpellEach ls ps

-- the text is short, its lines that aren't blank spell these fields one by one, and they keep the rules
pub record IsSchema (text : List ℕ) (fields : List MemberData) : Type 0 where
  pub short : length text ≤ max_text
  pub lines : SpellEach (full_lines (lines_of text)) fields
  pub rules : AreFields fields

-- one of the fields has this name
abbrev pub HaveName : List MemberData → List ℕ → Type 0
HaveName fields name = has_name (map (λ (p : MemberData). p.name) fields) name ≡ true

-- no field has the name that the line begins with
abbrev pub IsNew : List MemberData → List ℕ → Type 0
IsNew fields line = (name : List ℕ) → BeginsWithName line name → HaveName fields name → ⊥

-- this is wrong with the line of a further field, behind these
abbrev pub HasFieldFault : List MemberData → List ℕ → SchemaKind → Type 0
HasFieldFault fields line BadName = HasFault line BadName
HasFieldFault fields line Repeated = (name : List ℕ) × BeginsWithName line name × HaveName fields name
HasFieldFault fields line BadType = IsNew fields line × HasFault line BadType
HasFieldFault fields line TooDeep = IsNew fields line × HasFault line TooDeep
HasFieldFault fields line TooMany =
    IsNew fields line × ((p : MemberData) × IsMember line p × (max_fields < parts_count (parts_of fields) + field_count p.of))
HasFieldFault fields line TooLong = ⊥
HasFieldFault fields line Empty = ⊥

-- the first line with a fault: the lines before it that aren't blank spell fields that keep the rules, if any
pub record IsFirstFault (lines : List (List ℕ)) (number : ℕ) (kind : SchemaKind) : Type 0 where
  pub before : List (List ℕ)
  pub line : List ℕ
  pub after : List (List ℕ)
  pub fields : List MemberData
  pub whole : lines ≡ before ++ line ∷ after
  pub place : number ≡ length before + 1
  pub full : is_blank_line line ≡ false
  pub spelled : SpellEach (full_lines before) fields
  pub rules : (fields ≡ []) ⊎ AreFields fields
  pub fault : HasFieldFault fields line kind

-- the text has this as its first fault; line 0 stands for the text itself
abbrev pub IsRefused : List ℕ → ℕ → SchemaKind → Type 0
IsRefused text line TooLong = (line ≡ 0) × (max_text < length text)
IsRefused text line Empty = (line ≡ 0) × (length text ≤ max_text) × (full_lines (lines_of text) ≡ [])
IsRefused text line BadName = (length text ≤ max_text) × IsFirstFault (lines_of text) line BadName
IsRefused text line Repeated = (length text ≤ max_text) × IsFirstFault (lines_of text) line Repeated
IsRefused text line BadType = (length text ≤ max_text) × IsFirstFault (lines_of text) line BadType
IsRefused text line TooDeep = (length text ≤ max_text) × IsFirstFault (lines_of text) line TooDeep
IsRefused text line TooMany = (length text ≤ max_text) × IsFirstFault (lines_of text) line TooMany
