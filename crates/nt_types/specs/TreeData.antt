-- Trees as plain data.
use Rattle.std.specs.Prelude.{ℕ, ℤ, Bool, true, false, List, [], ◌∷◌}

mutual
  -- the value of a field
  pub data TreeData : Type 0 where
    flag : Bool → TreeData
    num : ℤ → TreeData
    text : List ℕ → TreeData
    items : TreesData → TreeData
    parts : TreesData → TreeData
    pick : ℕ → TreeData → TreeData
    nothing : TreeData

  pub data TreesData : Type 0 where
    no_trees : TreesData
    tree : TreeData → TreesData → TreesData

-- whether it is no value
abbrev pub is_nothing : TreeData → Bool
is_nothing nothing = true
is_nothing _ = false

-- trees as data of their own
abbrev pub trees_of : List TreeData → TreesData
trees_of [] = no_trees
trees_of (t ∷ ts) = tree t (trees_of ts)
