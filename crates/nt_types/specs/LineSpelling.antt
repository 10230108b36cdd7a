-- How a member is spelled on a line of its own, and what is wrong with a line that spells none.
use Rattle.std.specs.Prelude.{ℕ, true, false, ◌≡◌, ◌<◌, ◌≤◌, List, ◌∷◌, ◌++◌, length}
use Rattle.std.specs.List.{list_all}
use Rattle.nt_types.specs.ShapeData.{MemberData}
use Rattle.nt_types.specs.Words.{is_blank, is_space, is_name}
use Rattle.nt_types.specs.Limits.{max_depth}
use Rattle.nt_types.specs.Spelling.{spell, IsType, depth}
use Rattle.nt_types.specs.declared.fault.SchemaKind.{SchemaKind}
use Rattle.nt_types.specs.declared.fault.SchemaKind.TheVariants.{TooLong, BadName, Repeated, BadType, TooDeep, TooMany, Empty}

-- a name, one blank or more, the text of a type, and spaces
pub record IsLine (line name text : List ℕ) : Type 0 where
  pub blanks : List ℕ
  pub spaces : List ℕ
  pub is_name : is_name name ≡ true
  pub some_blank : 0 < length blanks
  pub all_blank : list_all is_blank blanks ≡ true
  pub all_space : list_all is_space spaces ≡ true
  pub whole : line ≡ name ++ (blanks ++ (text ++ spaces))

-- the line spells this member, however deep its type nests
pub record SpellsMember (line : List ℕ) (p : MemberData) : Type 0 where
  pub line_is : IsLine line p.name (spell p.of)
  pub rules : IsType false p.of

-- the line spells this member, whose type is at most 32 deep
pub record IsMember (line : List ℕ) (p : MemberData) : Type 0 where
  pub line_is : IsLine line p.name (spell p.of)
  pub rules : IsType false p.of
  pub shallow : depth p.of ≤ max_depth

-- the line begins with this name and a blank
pub record BeginsWithName (line name : List ℕ) : Type 0 where
  pub blank : ℕ
  pub rest : List ℕ
  pub is_name : is_name name ≡ true
  pub is_blank : is_blank blank ≡ true
  pub whole : line ≡ name ++ blank ∷ rest

-- this is wrong with a line: it begins with no name and blank, it spells no member, or one whose type nests too deep
abbrev pub HasFault : List ℕ → SchemaKind → Type 0
HasFault line BadName = (name : List ℕ) → BeginsWithName line name → ⊥
HasFault line BadType = (name : List ℕ) × BeginsWithName line name × ((p : MemberData) → SpellsMember line p → ⊥)
HasFault line TooDeep = (p : MemberData) × SpellsMember line p × (max_depth < depth p.of)
HasFault line TooLong = ⊥
HasFault line Repeated = ⊥
HasFault line TooMany = ⊥
HasFault line Empty = ⊥
