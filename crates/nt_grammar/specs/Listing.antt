-- Fields that are listed one after the other, breadth first.
use Rattle.std.specs.Prelude.{ℕ, true, ◌≡◌, ◌+◌, ◌≤◌, List, [], ◌∷◌, ◌++◌, length, take, drop}
use Rattle.nt_types.specs.ShapeData.{MemberData, parts_of}
use Rattle.nt_types.specs.Schema.{field_count, parts_count}
use Rattle.nt_grammar.specs.Rows.{NodeData, at_top}
use Rattle.nt_grammar.specs.Added.{MarkedData, with_mark, nodes_of, all_marks_inside}

-- how many fields these are, those inside of them included
abbrev pub weight : List NodeData → ℕ
weight [] = 0
weight (n ∷ ns) = field_count n.of + weight ns

-- the fields at the top level, from an id on, and those inside the first of all these
pub record AreListed (id : ℕ) (ps : List MemberData) (next : ℕ) (marks : List MarkedData) : Type 0 where
  pub order : marks ≡ with_mark true (at_top id ps) ++ all_marks_inside id (take next marks)
  pub count : next + weight (nodes_of (drop next marks)) ≡ parts_count (parts_of ps)
  pub within : next ≤ length marks
