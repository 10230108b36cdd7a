-- Shapes as plain data.
use Rattle.std.specs.Prelude.{ℕ, Bool, true, false, List, [], ◌∷◌}

mutual
  -- what the values of a field look like
  pub data ShapeData : Type 0 where
    bool : ShapeData
    char : ShapeData
    byte : ShapeData
    int : ℕ → Bool → ShapeData
    text : ShapeData
    list : ShapeData → ShapeData
    -- a value, or none
    maybe : ShapeData → ShapeData
    fields : MembersData → ShapeData
    tuple : ShapesData → ShapeData
    choice : ShapesData → ShapeData

  pub data ShapesData : Type 0 where
    no_kinds : ShapesData
    kind : ShapeData → ShapesData → ShapesData

  -- kinds under names
  pub data MembersData : Type 0 where
    no_parts : MembersData
    part : List ℕ → ShapeData → MembersData → MembersData

-- a kind under a name
pub record MemberData : Type 0 where
  pub name : List ℕ
  pub of : ShapeData

-- whether nothing is among the values of such a kind
abbrev pub takes_nothing : ShapeData → Bool
takes_nothing (maybe k) = true
takes_nothing (choice ks) = true
takes_nothing _ = false

-- kinds as data of their own
abbrev pub kinds_of : List ShapeData → ShapesData
kinds_of [] = no_kinds
kinds_of (k ∷ ks) = kind k (kinds_of ks)

-- kinds under names as data of their own
abbrev pub parts_of : List MemberData → MembersData
parts_of [] = no_parts
parts_of (p ∷ ps) = part p.name p.of (parts_of ps)

-- the list of such kinds
abbrev pub kinds_list : ShapesData → List ShapeData
kinds_list no_kinds = []
kinds_list (kind k ks) = k ∷ kinds_list ks

-- the list of such kinds under names
abbrev pub parts_list : MembersData → List MemberData
parts_list no_parts = []
parts_list (part n k ps) = record { name = n; of = k } ∷ parts_list ps
