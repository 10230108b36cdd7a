-- Page lists that stand beside their clusters: those that are noted while ranges are still reserved, and those that are left then.
use Rattle.std.specs.Prelude.{ℕ, ◌≡◌, ◌*◌, ◌<◌, false, List, length, take, drop, Some, None}
use Rattle.nt_grammar.specs.Table.{Table}
use Rattle.nt_machine.specs.History.{ranges_of}
use Rattle.nt_book.specs.Books.{BookData, noted_at}
use Rattle.nt_pagelists.specs.Objects.{ClusterSpan, list_len}
use Rattle.nt_lists.specs.Parts.{Part}
use Rattle.nt_layout.specs.Headers.{header_sum}
use Rattle.nt_layout.specs.Groups.{PlacedList}
use Rattle.nt_layout.specs.Finished.{list_places, range_parts, parts_beside}

-- the clusters of a full group, of so many
abbrev pub full_span : ℕ → ℕ → ClusterSpan
full_span most k = record { from = k * most; count = most }

-- a book of this schema's file, with page lists beside its clusters, in groups of at most so many: none failed, and each that is noted is
-- as long as that of its group
pub record HasListsBeside (t : Table) (most : ℕ) (book : BookData) : Type 0 where
  pub group : book.group ≡ Some (most, header_sum t)
  pub untorn : book.torn ≡ None
  pub noted : (k : ℕ) → k < length book.lists → (noted_at book k).len ≡ list_len (header_sum t) book (full_span most k)

-- the page lists that stand between the ranges
abbrev pub lists_noted : Table → BookData → ℕ → List PlacedList
lists_noted t book most = take (length book.lists) (list_places false t book most)

-- those that are left to be written
abbrev pub lists_left : Table → BookData → ℕ → List PlacedList
lists_left t book most = drop (length book.lists) (list_places false t book most)

-- the ranges, with these bytes, and the page lists that stand between them
abbrev pub parts_so_far : Table → BookData → ℕ → List (List ℕ) → List Part
parts_so_far t book most ranges =
    parts_beside (header_sum t) book (lists_noted t book most) (range_parts (ranges_of book.history) ranges)
