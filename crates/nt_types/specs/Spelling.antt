-- How types are spelled.
use Rattle.std.specs.Prelude.{ℕ, Bool, true, false, ◌≡◌, ◌≤◌, ◌+◌, List, [], ◌∷◌, ◌++◌, length, max, ◌==◌, ◌||◌, codes, if◌then◌else◌}
use Rattle.nt_types.specs.ShapeData.{ShapeData, ShapesData, MembersData, bool, char, byte, int, text, list, maybe, fields, tuple, choice}
use Rattle.nt_types.specs.ShapeData.{no_kinds, kind, no_parts, part, kinds_list, parts_list, takes_nothing}
use Rattle.nt_types.specs.Words.{is_name}
use Rattle.nt_types.specs.Names.{names_differ}
use Rattle.nt_types.specs.Limits.{max_alternatives}

-- a width in digits
abbrev pub digits : ℕ → List ℕ
digits bits = if bits == 8 then codes "8" else if bits == 16 then codes "16" else if bits == 32 then codes "32" else codes "64"

-- the text of a type; parts have a comma between them, and a member its name and a colon before it
abbrev mutual
  pub spell : ShapeData → List ℕ
  spell bool = codes "bool"
  spell char = codes "char"
  spell byte = codes "byte"
  spell (int bits signed) = (if signed then 105 else 117) ∷ digits bits
  spell text = codes "string"
  spell (list k) = codes "vec<" ++ (spell k ++ codes ">")
  spell (maybe k) = codes "opt<" ++ (spell k ++ codes ">")
  spell (fields ps) = codes "rec{" ++ (spell_parts ps ++ codes "}")
  spell (tuple ks) = codes "tuple<" ++ (spell_kinds ks ++ codes ">")
  spell (choice ks) = codes "var<" ++ (spell_kinds ks ++ codes ">")

  pub spell_kinds : ShapesData → List ℕ
  spell_kinds no_kinds = []
  spell_kinds (kind k ks) = spell k ++ spell_more_kinds ks

  pub spell_more_kinds : ShapesData → List ℕ
  spell_more_kinds no_kinds = []
  spell_more_kinds (kind k ks) = 44 ∷ (spell k ++ spell_more_kinds ks)

  pub spell_parts : MembersData → List ℕ
  spell_parts no_parts = []
  spell_parts (part n k ps) = n ++ 58 ∷ (spell k ++ spell_more_parts ps)

  pub spell_more_parts : MembersData → List ℕ
  spell_more_parts no_parts = []
  spell_more_parts (part n k ps) = 44 ∷ (n ++ 58 ∷ (spell k ++ spell_more_parts ps))

-- one of the widths of integers
abbrev pub is_width : ℕ → Bool
is_width bits = (bits == 8) || (bits == 16) || (bits == 32) || (bits == 64)

-- The rules of types, of those that lie in a choice or an optional and of others: integers have one of four widths, what has parts
-- has one at least, the names of a record differ, a choice has at most 100 alternatives, what an optional may contain takes no
-- nothing of its own, and no record lies in either.
abbrev mutual
  pub IsType : Bool → ShapeData → Type 0
  IsType within bool = Unit {0}
  IsType within char = Unit {0}
  IsType within byte = Unit {0}
  IsType within (int bits signed) = is_width bits ≡ true
  IsType within text = Unit {0}
  IsType within (list k) = IsType within k
  IsType within (maybe k) = (takes_nothing k ≡ false) × IsType true k
  IsType within (fields ps) = (within ≡ false) × (names_differ (parts_list ps) ≡ true) × AreParts ps
  IsType within (tuple ks) = AreKinds within ks
  IsType within (choice ks) = (length (kinds_list ks) ≤ max_alternatives) × AreKinds true ks

  -- one kind at least
  pub AreKinds : Bool → ShapesData → Type 0
  AreKinds within no_kinds = ⊥
  AreKinds within (kind k ks) = IsType within k × AreMoreKinds within ks

  pub AreMoreKinds : Bool → ShapesData → Type 0
  AreMoreKinds within no_kinds = Unit {0}
  AreMoreKinds within (kind k ks) = IsType within k × AreMoreKinds within ks

  -- one member at least
  pub AreParts : MembersData → Type 0
  AreParts no_parts = ⊥
  AreParts (part n k ps) = (is_name n ≡ true) × IsType false k × AreMoreParts ps

  pub AreMoreParts : MembersData → Type 0
  AreMoreParts no_parts = Unit {0}
  AreMoreParts (part n k ps) = (is_name n ≡ true) × IsType false k × AreMoreParts ps

-- how deep a kind nests: a leaf has depth 1, and what has parts one more than the deepest of them
abbrev mutual
  pub depth : ShapeData → ℕ
  depth bool = 1
  depth char = 1
  depth byte = 1
  depth (int bits signed) = 1
  depth text = 1
  depth (list k) = depth k + 1
  depth (maybe k) = depth k + 1
  depth (fields ps) = deepest_part ps + 1
  depth (tuple ks) = deepest_kind ks + 1
  depth (choice ks) = deepest_kind ks + 1

  pub deepest_kind : ShapesData → ℕ
  deepest_kind no_kinds = 0
  deepest_kind (kind k ks) = max (depth k) (deepest_kind ks)

  pub deepest_part : MembersData → ℕ
  deepest_part no_parts = 0
  deepest_part (part n k ps) = max (depth k) (deepest_part ps)
