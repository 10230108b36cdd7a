-- The pages of a loaded cluster as they are copied: those that have elements, column by column (RNTuple Binary Format Specification
-- 1.0.0.0, sections Pages and Page Locations).
use Rattle.std.specs.Prelude.{ℕ, ◌≡◌, ◌<◌, ◌≤◌, ◌+◌, ◌==◌, true, false, List, [], ◌∷◌, ◌++◌, map, length, take, replicate, slice_index_or}
use Rattle.std.specs.Prelude.{if◌then◌else◌}
use Rattle.std.specs.List.{AllByRecursion, range_with_len, slice_range, zip}
use Rattle.nt_types.specs.declared.column_type.ColumnType.TheVariants.{Bit}
use Rattle.nt_view.specs.declared.page_place.PagePlace.{PagePlace}
use Rattle.nt_view.specs.Loaded.{Loaded, loaded_pages, AreLoadable}
use Rattle.nt_view.specs.Stored.{has_its_sum}
use Rattle.nt_book.specs.declared.meta.ClusterMeta.{ClusterMeta}
use Rattle.nt_grammar.specs.Table.{Table}
use Rattle.nt_pages.specs.Image.{key_room}
use Rattle.nt_copied.specs.Stored.{StoredPage, stored_payload, stored_meta}

-- a loaded page, with its stored bytes, as it is copied
abbrev pub copied_page : PagePlace × List ℕ → StoredPage
copied_page e = record { count = e.0.count; bytes = take e.0.size e.1 }

-- those of pages that have elements
abbrev pub copied_pages : List (PagePlace × List ℕ) → List StoredPage
copied_pages [] = []
copied_pages (e ∷ es) = if e.0.count == 0 then copied_pages es else copied_page e ∷ copied_pages es

-- those of so many columns from this id on
abbrev pub copied_columns : Loaded → ℕ → ℕ → List (List StoredPage)
copied_columns l id n = map (λ k. copied_pages (loaded_pages l k)) (range_with_len id n)

-- all pages that were loaded, each with its stored bytes
abbrev pub all_loaded : Loaded → List (PagePlace × List ℕ)
all_loaded l = zip l.pages l.stored

-- the checksum that stands behind a page, where one does, is that of its bytes
abbrev pub HasItsSum : PagePlace × List ℕ → Type 0
HasItsSum e = has_its_sum e.0.checked e.0.size e.1 ≡ true

-- the same of each of these pages
abbrev pub HaveTheirSums : List (PagePlace × List ℕ) → Type 0
HaveTheirSums es = AllByRecursion HasItsSum es

-- so many bytes are appended, and they are these where something holds
pub record AppendsWhere (P : Type 0) (more old new : List ℕ) : Type 0 where
  pub len : length new ≡ length old + length more
  pub bytes : P → new ≡ old ++ more

-- no page
abbrev pub no_loaded : PagePlace × List ℕ
no_loaded = (record { column = 0; kind = Bit; count = 0; place = 0; size = 0; checked = false }, [])

-- the page at a place, with its stored bytes
abbrev pub loaded_page : Loaded → ℕ → PagePlace × List ℕ
loaded_page l i = slice_index_or (all_loaded l) i no_loaded

-- pages as they are loaded, each with its stored bytes
pub record IsCopyable (l : Loaded) : Type 0 where
  pub loadable : AreLoadable l.pages l.zeros
  pub stored : length l.stored ≡ length l.pages

-- pages from one place to before another
pub record IsPageSpan (from to : ℕ) (ps : List PagePlace) : Type 0 where
  pub order : from ≤ to
  pub within : to ≤ length ps

-- the pages of a column that stand from a place on end before another
pub record IsColumnPart (id from to : ℕ) (ps : List PagePlace) : Type 0 where
  pub part : IsPageSpan from to ps
  pub same : (m : ℕ) (d : PagePlace) → from ≤ m → m < to → (slice_index_or ps m d).column ≡ id
  pub last : (d : PagePlace) → to < length ps → (slice_index_or ps to d).column ≡ id → ⊥

-- the pages from one place to before another, with their stored bytes
abbrev pub loaded_part : Loaded → ℕ → ℕ → List (PagePlace × List ℕ)
loaded_part l from to = slice_range (all_loaded l) from to

-- there is a page at a place of them
pub record HasCopyable (i : ℕ) (l : Loaded) : Type 0 where
  pub there : i < length l.pages
  pub copyable : IsCopyable l

-- there are pages from one place to before another
pub record HasCopyableSpan (from to : ℕ) (l : Loaded) : Type 0 where
  pub span : IsPageSpan from to l.pages
  pub copyable : IsCopyable l

-- bytes are the image of the loaded pages of a cluster of a schema, with so many entries, and this is kept of it
pub record IsImageOf (t : Table) (entries : ℕ) (l : Loaded) (bytes : List ℕ) (meta : ClusterMeta) : Type 0 where
  pub bytes_are : HaveTheirSums (all_loaded l) → bytes ≡ replicate key_room 0 ++ stored_payload (copied_columns l 0 (length t.columns))
  pub meta_is : meta ≡ stored_meta 0 entries (copied_columns l 0 (length t.columns))
