-- Trees whose texts are bytes, as those of every tree in memory are.
use Rattle.std.specs.Prelude.{ℕ, ◌<◌, List, slice_index, ⊤}
use Rattle.nt_types.specs.TreeData.{TreeData, TreesData, flag, num, text, items, parts, pick, nothing, no_trees, tree}

-- numbers below 256
abbrev pub AreBytes : List ℕ → Type 0
AreBytes s = (i : ℕ) → slice_index s i < 256

-- each text is of bytes
abbrev mutual
  pub HasBytes : TreeData → Type 0
  HasBytes (flag b) = ⊤
  HasBytes (num z) = ⊤
  HasBytes (text s) = AreBytes s
  HasBytes (items vs) = AllHaveBytes vs
  HasBytes (parts vs) = AllHaveBytes vs
  HasBytes (pick tag v) = HasBytes v
  HasBytes nothing = ⊤

  -- of each of these trees
  pub AllHaveBytes : TreesData → Type 0
  AllHaveBytes no_trees = ⊤
  AllHaveBytes (tree v vs) = HasBytes v × AllHaveBytes vs
