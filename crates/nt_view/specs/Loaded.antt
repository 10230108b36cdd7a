-- Pages that were loaded, and what columns they give.
-- RNTuple Binary Format Specification 1.0.0.0, section Column Description.
use Rattle.std.specs.Prelude.{ℕ, ◌≡◌, ◌⊎◌, ◌+◌, ◌<◌, ◌≤◌, nat_eq, List, [], ◌∷◌, ◌++◌, length, take, replicate}
use Rattle.std.specs.Prelude.{if◌then◌else◌, map, Option, Some, None, slice_index_or, All}
use Rattle.std.specs.List.{flat_map, sum}
use Rattle.nt_types.specs.ColumnTable.{bits_of}
use Rattle.nt_types.specs.declared.column_type.ColumnType.{ColumnType}
use Rattle.nt_encode.specs.Pages.{page_size}
use Rattle.nt_encode.specs.Elements.{Element, plain, page_elements}
use Rattle.nt_view.specs.declared.page_place.PagePlace.{PagePlace}
use Rattle.nt_view.specs.declared.page_place.ZeroColumn.{ZeroColumn}

-- pages as they were listed, the stored bytes of each with its checksum, and columns of zeros
pub record Loaded : Type 0 where
  pub pages : List PagePlace
  pub stored : List (List ℕ)
  pub zeros : List ZeroColumn

-- the elements of a page whose stored bytes are these
abbrev pub stored_elements : PagePlace → List ℕ → List Element
stored_elements p stored = page_elements p.kind p.count (take p.size stored)

-- the pages of a column, each with its stored bytes, by the stored bytes of all pages
abbrev pub pages_with : ℕ → List PagePlace → List (List ℕ) → List (PagePlace × List ℕ)
pages_with k [] bs = []
pages_with k (p ∷ ps) [] = []
pages_with k (p ∷ ps) (b ∷ bs) = (if nat_eq p.column k then (p, b) ∷ [] else []) ++ pages_with k ps bs

-- the elements of such pages, one page behind the other
abbrev pub elements_with : List (PagePlace × List ℕ) → List Element
elements_with es = flat_map (λ (e : PagePlace × List ℕ). stored_elements e.0 e.1) es

-- how many elements each has
abbrev pub counts_with : List (PagePlace × List ℕ) → List ℕ
counts_with es = map (λ (e : PagePlace × List ℕ). e.0.count) es

-- their type, that of the first; none where there is no page
abbrev pub kind_with : List (PagePlace × List ℕ) → Option ColumnType
kind_with [] = None
kind_with (e ∷ es) = Some e.0.kind

-- how many zeros a column has: the last count that is listed, or so many before
abbrev pub zeros_listed : ℕ → ℕ → List ZeroColumn → ℕ
zeros_listed n k [] = n
zeros_listed n k (z ∷ zs) = zeros_listed (if nat_eq z.column k then z.count else n) k zs

-- the pages of a column that was loaded
abbrev pub loaded_pages : Loaded → ℕ → List (PagePlace × List ℕ)
loaded_pages l k = pages_with k l.pages l.stored

-- its elements: those of its pages, or zeros, whose tags are 0
abbrev pub loaded_elements : Loaded → ℕ → List Element
loaded_elements l k = elements_with (loaded_pages l k) ++ replicate (zeros_listed 0 k l.zeros) (plain 0)

-- its type, that of its first page; none of a column without pages
abbrev pub loaded_kind : Loaded → ℕ → Option ColumnType
loaded_kind l k = kind_with (loaded_pages l k)

-- the elements from one place to before another lie in one of pages that have so many elements, or there are none
abbrev pub LieInOnePage : List ℕ → ℕ → ℕ → Type 0
LieInOnePage counts from to =
    (from ≡ to) ⊎ ((j : ℕ) × (j < length counts) × (sum (take j counts) ≤ from) × (to ≤ sum (take (j + 1) counts)))

-- elements of a column lie in one page of 8-bit elements, or there are none: such are lent as they lie
abbrev pub AreLent : Loaded → ℕ → ℕ → ℕ → Type 0
AreLent l k from to = (from ≡ to) ⊎ ((kind : ColumnType) × (loaded_kind l k ≡ Some kind) × (bits_of kind ≡ 8)
    × LieInOnePage (counts_with (loaded_pages l k)) from to)

-- a page may follow another: it is of the same column and its type, or of a column with a higher id
abbrev pub MayStandBehind : PagePlace → PagePlace → Type 0
MayStandBehind p q = (p.column < q.column) ⊎ ((p.column ≡ q.column) × (p.kind ≡ q.kind))

-- pages stand by column, and all of a column are of one type
abbrev pub StandInOrder : List PagePlace → Type 0
StandInOrder ps = (i : ℕ) (d : PagePlace) → i + 1 < length ps → MayStandBehind (slice_index_or ps i d) (slice_index_or ps (i + 1) d)

-- pages as they can be loaded: each of the size of its elements, by column, and none of a column of zeros
pub record AreLoadable (ps : List PagePlace) (zs : List ZeroColumn) : Type 0 where
  pub sized : All (λ (p : PagePlace). p.size ≡ page_size p.kind p.count) ps
  pub order : StandInOrder ps
  pub apart : All (λ (z : ZeroColumn). All (λ (p : PagePlace). (p.column ≡ z.column) → ⊥) ps) zs

-- no page, and no column
abbrev pub nothing_loaded : Loaded
nothing_loaded = record { pages = []; stored = []; zeros = [] }

-- these pages, with these stored bytes, and columns of zeros
abbrev pub loaded_with : List PagePlace → List (List ℕ) → List ZeroColumn → Loaded
loaded_with ps bs zs = record { pages = ps; stored = bs; zeros = zs }
