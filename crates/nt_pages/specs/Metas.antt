-- Where the pages of a cluster lie.
-- RNTuple Binary Format Specification 1.0.0.0, section Page Locations.
use Rattle.std.specs.Prelude.{ℕ, ◌+◌, List, [], ◌∷◌, map, length}
use Rattle.std.specs.List.{slice_range}
use Rattle.nt_types.specs.declared.column_type.ColumnType.{ColumnType}
use Rattle.nt_book.specs.declared.meta.PageMeta.{PageMeta}
use Rattle.nt_book.specs.declared.meta.ClusterMeta.{ClusterMeta}
use Rattle.nt_column.specs.Elements.{Element, page_of}
use Rattle.nt_lists.specs.Chunks.{chunks}
use Rattle.nt_column.specs.Column.{Column}
use Rattle.nt_pages.specs.Image.{checksum_len, stored_page, column_bytes, image}

-- a page at a place of the payload; its checksum isn't of its size
abbrev pub page_meta : ColumnType → ℕ → List Element → PageMeta
page_meta kind place es = record { count = length es; place = place; size = length (page_of kind es) }

-- pages from a place on, each behind the one before
abbrev pub page_metas : ColumnType → ℕ → List (List Element) → List PageMeta
page_metas kind place [] = []
page_metas kind place (g ∷ gs) = page_meta kind place g ∷ page_metas kind (place + length (stored_page kind g)) gs

-- the pages of columns from a place on
abbrev pub column_metas : ℕ → ℕ → List Column → List (List PageMeta)
column_metas page place [] = []
column_metas page place (c ∷ cs) = page_metas c.kind place (chunks page c.elements)
    ∷ column_metas page (place + length (column_bytes page c)) cs

-- what is kept of the cluster of these columns; the first page has place 0, and the room counts in the length
abbrev pub cluster_meta : ℕ → ℕ → ℕ → List Column → ClusterMeta
cluster_meta page context entries cs = record {
  context = context;
  entries = entries;
  len = length (image page cs);
  pages = column_metas page 0 cs;
}

-- what lies at the place of a page: its bytes and its checksum
abbrev pub stored_at : List ℕ → PageMeta → List ℕ
stored_at bytes m = slice_range bytes m.place (m.place + (m.size + checksum_len))

-- the stored pages of columns
abbrev pub stored_pages : ℕ → List Column → List (List (List ℕ))
stored_pages page cs = map (λ (c : Column). map (stored_page c.kind) (chunks page c.elements)) cs
