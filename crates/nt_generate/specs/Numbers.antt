-- The numbers of entries.
use Rattle.std.specs.Prelude.{ℕ, ◌+◌, pos, negsuc, List}
use Rattle.std.specs.List.{sum_by}
use Rattle.nt_types.specs.TreeData.{TreeData, TreesData, flag, num, text, items, parts, pick, nothing, no_trees, tree}

-- a number as it is; one below 0, and what is no number, as 0
abbrev pub counted_number : TreeData → ℕ
counted_number (num (pos n)) = n
counted_number (num (negsuc n)) = 0
counted_number (flag b) = 0
counted_number (text bytes) = 0
counted_number (items ts) = 0
counted_number (parts ts) = 0
counted_number (pick tag t) = 0
counted_number nothing = 0

-- the sum of the numbers of a list
abbrev pub numbers_sum : TreesData → ℕ
numbers_sum no_trees = 0
numbers_sum (tree t ts) = counted_number t + numbers_sum ts

-- the number of a field, or the sum of those in its list
abbrev pub field_sum : TreeData → ℕ
field_sum (items ts) = numbers_sum ts
field_sum (num n) = counted_number (num n)
field_sum (flag b) = 0
field_sum (text bytes) = 0
field_sum (parts ts) = 0
field_sum (pick tag t) = 0
field_sum nothing = 0

-- the sum of the numbers of an entry: those of its fields, and those in its fields' lists
abbrev pub entry_sum : TreesData → ℕ
entry_sum no_trees = 0
entry_sum (tree t ts) = field_sum t + entry_sum ts

-- of entries
abbrev pub entries_sum : List TreesData → ℕ
entries_sum = sum_by entry_sum
