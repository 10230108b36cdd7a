-- Pages of a column whose bytes lie in one store.
use Rattle.std.specs.Prelude.{ℕ, ◌≡◌, ◌⊎◌, ◌+◌, ◌<◌, ◌≤◌, List, length, take, drop, slice_index_or}
use Rattle.std.specs.List.{All, Contains, flat_map, sum_by}
use Rattle.nt_types.specs.declared.column_type.ColumnType.{ColumnType}
use Rattle.nt_types.specs.declared.column_type.ColumnType.TheVariants.{SplitIndex32, SplitIndex64}
use Rattle.nt_encode.specs.Pages.{page_size}
use Rattle.nt_encode.specs.Elements.{Element, page_elements}
use Rattle.nt_view.specs.declared.place.PageAt.{PageAt}

-- the bytes of a page
abbrev pub bytes_of_page : ColumnType → List ℕ → PageAt → List ℕ
bytes_of_page kind store p = take (page_size kind p.count) (drop p.at store)

-- its elements
abbrev pub elements_of_page : ColumnType → List ℕ → PageAt → List Element
elements_of_page kind store p = page_elements kind p.count (bytes_of_page kind store p)

-- the elements of pages, one behind the other
abbrev pub elements_of_pages : ColumnType → List ℕ → List PageAt → List Element
elements_of_pages kind store ps = flat_map (elements_of_page kind store) ps

-- how many elements pages have
abbrev pub count_of : List PageAt → ℕ
count_of ps = sum_by (λ (p : PageAt). p.count) ps

-- each page knows how many elements are before it
abbrev pub Follow : List PageAt → Type 0
Follow ps = (j : ℕ) (d : PageAt) → j < length ps → (slice_index_or ps j d).first ≡ count_of (take j ps)

-- pages of a column lie in a store, and each knows how many elements are before it
pub record ArePages (kind : ColumnType) (store : List ℕ) (ps : List PageAt) : Type 0 where
  pub lie : All (λ (p : PageAt). p.at + page_size kind p.count ≤ length store) ps
  pub follow : Follow ps

-- a type whose numbers are sums of those before them in the page
abbrev pub IsSplitIndex : ColumnType → Type 0
IsSplitIndex kind = (kind ≡ SplitIndex32) ⊎ (kind ≡ SplitIndex64)

-- such pages, of a type whose values stand each for itself
pub record AreOwnPages (kind : ColumnType) (store : List ℕ) (ps : List PageAt) : Type 0 where
  pub pages : ArePages kind store ps
  pub single : IsSplitIndex kind → ⊥

-- a part of a page of so many values, each of which stands for itself
pub record IsOwnPart (kind : ColumnType) (count : ℕ) (bytes : List ℕ) (from to : ℕ) : Type 0 where
  pub size : length bytes ≡ page_size kind count
  pub single : IsSplitIndex kind → ⊥
  pub within : to ≤ count

-- pages have the elements from one place to before another
pub record HaveRange (ps : List PageAt) (from to : ℕ) : Type 0 where
  pub order : from ≤ to
  pub within : to ≤ count_of ps

-- element i stands in page j
pub record IsIn (ps : List PageAt) (j i : ℕ) : Type 0 where
  pub there : j < length ps
  pub from : (d : PageAt) → (slice_index_or ps j d).first ≤ i
  pub before : (d : PageAt) → i < (slice_index_or ps j d).first + (slice_index_or ps j d).count

-- the elements from one place to before another lie in one page, or there are none
abbrev pub LieInOne : List PageAt → ℕ → ℕ → Type 0
LieInOne ps from to = (from ≡ to) ⊎ ((p : PageAt) × Contains ps p × (p.first ≤ from) × (to ≤ p.first + p.count))
