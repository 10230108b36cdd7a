-- The events of a context: a run, some ids and a tag, each of its draws, one event behind the other.
use Rattle.std.specs.Prelude.{ℕ, zero, suc, ◌%◌, pos, false, List, [], ◌∷◌, map, codes, decimal}
use Rattle.std.specs.List.{range_with_len}
use Rattle.nt_types.specs.ShapeData.{MemberData}
use Rattle.nt_types.specs.ShapeData as shape
use Rattle.nt_types.specs.TreeData.{TreeData, TreesData, num, text, items, trees_of}
use Rattle.nt_draws.specs.Draws.{drawn, after_draws}

-- the fields: `run u32`, `ids vec<u32>`, `tag string`
abbrev pub event_fields : List MemberData
event_fields = record { name = codes "run"; of = shape.int 32 false } ∷ record { name = codes "ids"; of = shape.list (shape.int 32 false) }
    ∷ record { name = codes "tag"; of = shape.text } ∷ []

-- a number as a tree
abbrev pub number_tree : ℕ → TreeData
number_tree n = num (pos n)

-- a run, ids and the digit of a tag, as the trees of an entry
abbrev pub event_trees : ℕ → List ℕ → ℕ → List TreeData
event_trees run ids digit = number_tree run ∷ items (trees_of (map number_tree ids)) ∷ text (116 ∷ decimal digit) ∷ []

-- so many ids, each of a draw
abbrev pub drawn_ids : ℕ → ℕ → List ℕ
drawn_ids zero s = []
drawn_ids (suc n) s = drawn s % 1000000 ∷ drawn_ids n (drawn s)

-- how many ids the event behind a number has, by its second draw
abbrev pub ids_count : ℕ → ℕ
ids_count s = drawn (drawn s) % 4

-- its last draw, behind those of its ids
abbrev pub after_event : ℕ → ℕ
after_event s = drawn (after_draws (ids_count s) (drawn (drawn s)))

-- the event behind a number
abbrev pub event_behind : ℕ → TreesData
event_behind s = trees_of (event_trees (drawn s % 1000) (drawn_ids (ids_count s) (drawn (drawn s))) (after_event s % 10))

-- so many events behind a number
abbrev pub events_behind : ℕ → ℕ → List TreesData
events_behind zero s = []
events_behind (suc n) s = event_behind s ∷ events_behind n (after_event s)

-- so many events of each of so many contexts, whose numbers go on from that of the first
abbrev pub made_events : ℕ → ℕ → ℕ → List (List TreesData)
made_events contexts events seed = map (events_behind events) (range_with_len seed contexts)
