-- A page of loaded bytes, seen by itself.
use Rattle.std.specs.Prelude.{ℕ, ◌≡◌, ◌+◌, nat_eq, List, [], ◌∷◌, take, drop, if◌then◌else◌}
use Rattle.nt_types.specs.declared.column_type.ColumnType.{ColumnType}
use Rattle.nt_encode.specs.Elements.{page_elements}
use Rattle.nt_column.specs.Column.{Buffer}
use Rattle.nt_view.specs.declared.page_place.PagePlace.{PagePlace}

-- the type of a page, how many elements it has, and its bytes without a checksum
pub record PageSeen : Type 0 where
  pub kind : ColumnType
  pub count : ℕ
  pub bytes : List ℕ

-- a page whose stored bytes are these
abbrev pub page_seen : PagePlace → List ℕ → PageSeen
page_seen p stored = record { kind = p.kind; count = p.count; bytes = take p.size stored }

-- how many elements of a column pages have
abbrev pub counted_of : ℕ → List PagePlace → ℕ
counted_of k [] = 0
counted_of k (p ∷ ps) = (if nat_eq p.column k then p.count else 0) + counted_of k ps

-- the elements of a page are those of a buffer from a place on
abbrev pub AreSumsFrom : ℕ → Buffer → ColumnType → ℕ → List ℕ → Type 0
AreSumsFrom first b kind count bytes = take count (drop first b.column.elements) ≡ page_elements kind count bytes
