-- How many elements a tree adds to one column at most.
use Rattle.std.specs.Prelude.{ℕ, ◌+◌, max, length}
use Rattle.nt_types.specs.TreeData.{TreeData, TreesData, flag, num, text, items, parts, pick, nothing, no_trees, tree}

-- items of a list lie in the same columns one after the other, parts of a record in different ones; one element at least, as of the
-- ends of an optional that holds it
abbrev mutual
  pub most : TreeData → ℕ
  most (flag b) = 1
  most (num z) = 1
  most (text s) = max 1 (length s)
  most (items ts) = max 1 (most_of_all ts)
  most (parts ts) = max 1 (most_of_any ts)
  most (pick tag t) = max 1 (most t)
  most nothing = 1

  -- of all of these together
  pub most_of_all : TreesData → ℕ
  most_of_all no_trees = 0
  most_of_all (tree t ts) = most t + most_of_all ts

  -- of the one of these that adds most
  pub most_of_any : TreesData → ℕ
  most_of_any no_trees = 0
  most_of_any (tree t ts) = max (most t) (most_of_any ts)
