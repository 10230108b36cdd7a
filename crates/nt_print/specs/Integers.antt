-- Lists of integers.
use Rattle.std.specs.Prelude.{ℕ, ℤ, Bool, List, [], ◌∷◌, ◌++◌, ◌<◌, ⊤}
use Rattle.serde_json.specs.Written.{compact_text}
use Rattle.nt_event.specs.Json.{data_of}
use Rattle.nt_types.specs.TreeData.{TreesData, num, no_trees, tree}
use Rattle.nt_trees.specs.Integers.{integer_of}

-- the trees of the integers that numbers of this width and sign stand for
abbrev pub integer_trees : ℕ → Bool → List ℕ → TreesData
integer_trees bits signed [] = no_trees
integer_trees bits signed (n ∷ ns) = tree (num (integer_of bits signed n)) (integer_trees bits signed ns)

-- the texts of integers, a mark in front of the first, and commas in front of the others
abbrev pub integers_text : ℕ → List ℤ → List ℕ
integers_text mark [] = []
integers_text mark (z ∷ zs) = mark ∷ (compact_text (data_of (num z)) ++ integers_text 44 zs)

-- all numbers are below another
abbrev pub AreBelow : ℕ → List ℕ → Type 0
AreBelow end [] = ⊤
AreBelow end (n ∷ ns) = (n < end) × AreBelow end ns
