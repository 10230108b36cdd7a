-- The bytes of a cluster: its columns one after the other, each cut into pages.
-- RNTuple Binary Format Specification 1.0.0.0, sections Pages and Clusters.
use Rattle.std.specs.Prelude.{ℕ, ◌-◌, ◌<◌, ◌≤◌, List, ◌++◌, replicate}
use Rattle.std.specs.List.{flat_map}
use Rattle.std.specs.Int.{w64, to_le_bytes}
use Rattle.nt_types.specs.declared.column_type.ColumnType.{ColumnType}
use Rattle.nt_xxh3.specs.Sum.{xxh3}
use Rattle.nt_book.specs.Ranges.{max_page}
use Rattle.nt_column.specs.Elements.{Element, page_of}
use Rattle.nt_lists.specs.Chunks.{chunks}
use Rattle.nt_column.specs.Column.{Column}

-- the bytes of room for the key of a cluster, before its payload
abbrev pub key_room : ℕ
key_room = 42

-- the bytes of a page's checksum
abbrev pub checksum_len : ℕ
checksum_len = 8

-- how many elements pages may have at most
pub record IsPageLimit (page : ℕ) : Type 0 where
  pub some : 0 < page
  pub most : page ≤ max_page

-- a part of n elements that may be a page
pub record IsPageOfColumn (n from to : ℕ) : Type 0 where
  pub order : from ≤ to
  pub within : to ≤ n
  pub few : to - from ≤ max_page

-- a page as it is stored, with the XXH3-64 of its bytes behind them
abbrev pub stored_page : ColumnType → List Element → List ℕ
stored_page kind es = page_of kind es ++ to_le_bytes w64 (xxh3 (page_of kind es))

-- a column, cut into pages of at most so many elements
abbrev pub column_bytes : ℕ → Column → List ℕ
column_bytes page c = flat_map (stored_page c.kind) (chunks page c.elements)

-- the payload of a cluster of these columns
abbrev pub payload : ℕ → List Column → List ℕ
payload page cs = flat_map (column_bytes page) cs

-- the payload behind the room for its key
abbrev pub image : ℕ → List Column → List ℕ
image page cs = replicate key_room 0 ++ payload page cs
