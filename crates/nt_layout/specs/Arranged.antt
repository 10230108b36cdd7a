-- Page lists where a book has them: behind all ranges where its clusters are staged, else each beside its clusters.
use Rattle.std.specs.Prelude.{ℕ, ◌≡◌, Bool, true, false, List, [], Option, Some, None}
use Rattle.nt_grammar.specs.Table.{Table}
use Rattle.nt_machine.specs.History.{ranges_of}
use Rattle.nt_book.specs.Books.{BookData, IsUngrouped}
use Rattle.nt_lists.specs.Parts.{Part}
use Rattle.nt_layout.specs.Groups.{PlacedList}
use Rattle.nt_layout.specs.Finished.{list_places, range_parts}
use Rattle.nt_layout.specs.Beside.{HasListsBeside, lists_noted, lists_left, parts_so_far}

-- the groups of a book, whose page lists are noted while ranges are reserved: of so many clusters, under a header of this checksum; a
-- staged book has none
abbrev pub group_for : Bool → ℕ → ℕ → Option (ℕ × ℕ)
group_for true most sum = None
group_for false most sum = Some (most, sum)

-- a book of this schema's file with page lists so, in groups of at most so many clusters: none failed
abbrev pub HasLists : Bool → Table → ℕ → BookData → Type 0
HasLists true t most book = (book.staged ≡ true) × IsUngrouped book
HasLists false t most book = HasListsBeside t most book

-- the page lists that stand between the ranges
abbrev pub lists_between : Bool → Table → BookData → ℕ → List PlacedList
lists_between true t book most = []
lists_between false t book most = lists_noted t book most

-- those that are left to be written once all ranges are
abbrev pub lists_after : Bool → Table → BookData → ℕ → List PlacedList
lists_after true t book most = list_places true t book most
lists_after false t book most = lists_left t book most

-- the ranges, with these bytes, and the page lists that stand between them
abbrev pub parts_filled : Bool → Table → BookData → ℕ → List (List ℕ) → List Part
parts_filled true t book most ranges = range_parts (ranges_of book.history) ranges
parts_filled false t book most ranges = parts_so_far t book most ranges
