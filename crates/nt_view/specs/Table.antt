-- Where the elements of each column lie: in pages of the store, in numbers that were added up, or nowhere, where they are zeros.
use Rattle.std.specs.Prelude.{ℕ, ◌≡◌, ◌+◌, ◌^◌, ◌<◌, ◌≤◌, List, [], ◌∷◌, ◌++◌, length, take, drop, map, slice_index_or, replicate, All}
use Rattle.std.specs.Prelude.{Some}
use Rattle.std.specs.List.{slice_range, sum_by, zip}
use Rattle.nt_types.specs.declared.column_type.ColumnType.{ColumnType}
use Rattle.nt_types.specs.ColumnTable.{bits_of}
use Rattle.nt_encode.specs.Pages.{page_size}
use Rattle.nt_encode.specs.Elements.{Element, plain}
use Rattle.nt_column.specs.Column.{Buffer, empty, with_more, columns_of, elements_at}
use Rattle.nt_view.specs.declared.page_place.PagePlace.{PagePlace}
use Rattle.nt_view.specs.declared.page_place.ZeroColumn.{ZeroColumn}
use Rattle.nt_view.specs.declared.place.PageAt.{PageAt}
use Rattle.nt_view.specs.declared.table.Table.{Table}
use Rattle.nt_view.specs.declared.table.Held.{Held}
use Rattle.nt_view.specs.declared.table.Held.TheVariants.{Zeros, Pages, Sums}
use Rattle.nt_view.specs.Pages.{elements_of_pages, count_of, ArePages, AreOwnPages, IsSplitIndex, LieInOne}
use Rattle.nt_view.specs.Loads.{loaded_len}
use Rattle.nt_view.specs.Loaded.{elements_with, counts_with, kind_with, pages_with, zeros_listed, StandInOrder}
use Rattle.nt_view.specs.Stores.{lens_of, cut_up}

-- what is held of a column; of one that isn't there no zeros
abbrev pub held_at : List Held → ℕ → Held
held_at hs k = slice_index_or hs k (Zeros 0)

-- the places of pages that stand one behind the other from a place on, with so many elements before them
abbrev pub laid_from : ℕ → ℕ → List PagePlace → List PageAt
laid_from first at [] = []
laid_from first at (p ∷ ps) = record { first = first; count = p.count; at = at } ∷ laid_from (first + p.count) (at + loaded_len p) ps

-- each page has its place
pub record AreAt (places : List PageAt) (ps : List PagePlace) : Type 0 where
  pub all : length places ≡ length ps
  pub at : (m : ℕ) (d : PageAt) → m < length ps → (slice_index_or places m d).at ≡ lens_of (take m ps)

-- how many elements pages have together
abbrev pub elements_counted : List PagePlace → ℕ
elements_counted ps = sum_by (λ (p : PagePlace). p.count) ps

-- pages from one place to before another are all those of a column: that of the first, of its type
pub record IsPageGroup (ps : List PagePlace) (i j : ℕ) : Type 0 where
  pub some : i < j
  pub within : j ≤ length ps
  pub same : (m : ℕ) (d : PagePlace) → i ≤ m → m < j → (slice_index_or ps m d).column ≡ (slice_index_or ps i d).column
  pub last : (d : PagePlace) → j < length ps → (slice_index_or ps j d).column ≡ (slice_index_or ps i d).column → ⊥

-- pages of the store from one place of their list to before another are those of a column, of this type and with so many elements
pub record LieInPages (store : List ℕ) (places : List PageAt) (kind : ColumnType) (begin end count : ℕ)
    (ms : List (PagePlace × List ℕ)) : Type 0 where
  pub order : begin ≤ end
  pub within : end ≤ length places
  pub are : ArePages kind store (slice_range places begin end)
  pub gives : elements_with ms ≡ elements_of_pages kind store (slice_range places begin end)
  pub counts : counts_with ms ≡ map (λ (p : PageAt). p.count) (slice_range places begin end)
  pub all : count ≡ count_of (slice_range places begin end)
  pub of_kind : kind_with ms ≡ Some kind
  pub single : IsSplitIndex kind → ⊥

-- the numbers of a column were added up
pub record AreAddedUp (sums : List Buffer) (s : ℕ) (ms : List (PagePlace × List ℕ)) : Type 0 where
  pub there : s < length sums
  pub kind : ColumnType
  pub of_kind : kind_with ms ≡ Some kind
  pub split : IsSplitIndex kind
  pub gives : (d : Buffer) → (slice_index_or sums s d).column ≡ with_more (empty kind) (elements_with ms)

-- what is held of a column is what its pages give
abbrev pub IsHeld : List ℕ → List PageAt → List Buffer → Held → List (PagePlace × List ℕ) → Type 0
IsHeld store places sums (Zeros n) ms = ms ≡ []
IsHeld store places sums (Pages kind begin end count) ms = LieInPages store places kind begin end count ms
IsHeld store places sums (Sums s) ms = AreAddedUp sums s ms

-- the zeros that are held of a column
abbrev pub zeros_held : Held → ℕ
zeros_held (Zeros n) = n
zeros_held (Pages kind begin end count) = 0
zeros_held (Sums s) = 0

-- the table of columns says of each what its pages give
abbrev pub AreHeld : List ℕ → List PageAt → List Buffer → List Held → (ℕ → List (PagePlace × List ℕ)) → Type 0
AreHeld store places sums hs ms = (k : ℕ) → IsHeld store places sums (held_at hs k) (ms k)

-- a cluster's store, pages and table
pub record IsClusterLaid (store : List ℕ) (pages : List PagePlace) (zeros : List ZeroColumn) (places : List PageAt) (hs : List Held)
    (sums : List Buffer) : Type 0 where
  pub held : AreHeld store places sums hs (λ k. pages_with k pages (cut_up pages store))
  pub zero : (k : ℕ) → zeros_listed 0 k zeros ≡ zeros_held (held_at hs k)
  pub at : AreAt places pages
  pub len : length store ≡ lens_of pages
  pub few : length pages < 2 ^ 32
  pub sized : All (λ (p : PagePlace). p.size ≡ page_size p.kind p.count) pages
  pub order : StandInOrder pages

-- pages of one column stand in the store from a place on
pub record IsColumnAt (store : List ℕ) (ps : List PagePlace) (at : ℕ) : Type 0 where
  pub some : 0 < length ps
  pub sized : All (λ (p : PagePlace). p.size ≡ page_size p.kind p.count) ps
  pub same : (m : ℕ) (d : PagePlace) → m < length ps → (slice_index_or ps m d).kind ≡ (slice_index_or ps 0 d).kind
  pub within : at + lens_of ps ≤ length store

-- its pages, each with its stored bytes
abbrev pub pages_at : List ℕ → List PagePlace → ℕ → List (PagePlace × List ℕ)
pages_at store ps at = zip ps (cut_up ps (drop at store))

-- numbers of one column more were added up
pub record GainsSums (kind : ColumnType) (es : List Element) (old new : List Buffer) : Type 0 where
  pub buffer : Buffer
  pub more : new ≡ old ++ buffer ∷ []
  pub is : buffer.column ≡ with_more (empty kind) es

-- the table says one column more
pub record GainsColumn (store : List ℕ) (ps : List PagePlace) (at : ℕ) (old new : Table) : Type 0 where
  pub places : new.places.items ≡ old.places.items ++ laid_from 0 at ps
  pub sums : List Buffer
  pub added : new.sums.items ≡ old.sums.items ++ sums
  pub held : Held
  pub columns : new.columns.items ≡ old.columns.items ++ held ∷ []
  pub is : IsHeld store new.places.items new.sums.items held (pages_at store ps at)
  pub none : zeros_held held ≡ 0

-- the table says the columns of the first pages
pub record IsLaidTo (store : List ℕ) (ps : List PagePlace) (i : ℕ) (t : Table) : Type 0 where
  pub held : AreHeld store t.places.items t.sums.items t.columns.items (λ k. pages_with k (take i ps) (cut_up (take i ps) store))
  pub none : (k : ℕ) → zeros_held (held_at t.columns.items k) ≡ 0
  pub at : AreAt t.places.items (take i ps)

-- so many zeros are held
abbrev pub AreZeros : Held → Type 0
AreZeros h = (n : ℕ) × (h ≡ Zeros n)

-- the same pages are held, or zeros as before, however many
abbrev pub HasSamePages : Held → Held → Type 0
HasSamePages (Zeros n) h = AreZeros h
HasSamePages (Pages kind begin end count) h = h ≡ Pages kind begin end count
HasSamePages (Sums s) h = h ≡ Sums s

-- the table says no column
pub record IsEmptyTable (t : Table) : Type 0 where
  pub places : t.places.items ≡ []
  pub columns : t.columns.items ≡ []
  pub sums : t.sums.items ≡ []

-- the elements of a column, by what is held of it
abbrev pub elements_held : List ℕ → List PageAt → List Buffer → Held → List Element
elements_held store places sums (Zeros n) = replicate n (plain 0)
elements_held store places sums (Pages kind begin end count) = elements_of_pages kind store (slice_range places begin end)
elements_held store places sums (Sums s) = elements_at (columns_of sums) s

-- pages of the store from one place of their list to before another are a column's
pub record ArePagesHeld (store : List ℕ) (places : List PageAt) (kind : ColumnType) (begin end count : ℕ) : Type 0 where
  pub order : begin ≤ end
  pub within : end ≤ length places
  pub own : AreOwnPages kind store (slice_range places begin end)
  pub all : count ≡ count_of (slice_range places begin end)

-- what is held of a column is there
abbrev pub IsHeldThere : List ℕ → List PageAt → List Buffer → Held → Type 0
IsHeldThere store places sums (Zeros n) = Unit {0}
IsHeldThere store places sums (Pages kind begin end count) = ArePagesHeld store places kind begin end count
IsHeldThere store places sums (Sums s) = s < length sums

-- what a table holds of a column, over this store
abbrev pub IsColumnOf : List ℕ → Table → ℕ → Type 0
IsColumnOf store t k = IsHeldThere store t.places.items t.sums.items (held_at t.columns.items k)

-- and its elements
abbrev pub elements_in_table : List ℕ → Table → ℕ → List Element
elements_in_table store t k = elements_held store t.places.items t.sums.items (held_at t.columns.items k)

-- the elements of a column of 8 bits from one place to before another lie in one of its pages
abbrev pub IsLent : List PageAt → Held → ℕ → ℕ → Type 0
IsLent places (Zeros n) from to = ⊥
IsLent places (Pages kind begin end count) from to = (bits_of kind ≡ 8) × LieInOne (slice_range places begin end) from to
IsLent places (Sums s) from to = ⊥

-- a column has the elements from one place to before another
pub record HasColumnRange (store : List ℕ) (t : Table) (k from to : ℕ) : Type 0 where
  pub order : from ≤ to
  pub within : to ≤ length (elements_in_table store t k)

-- the numbers of a column were added up in this buffer
abbrev pub HasSums : Table → ℕ → Buffer → Type 0
HasSums t k b = (s : ℕ) × (held_at t.columns.items k ≡ Sums s) × (b ≡ slice_index_or t.sums.items s b)
