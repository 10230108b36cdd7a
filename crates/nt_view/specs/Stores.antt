-- The stored bytes of pages that are read one page behind the other, and bytes of the file that were read behind them.
use Rattle.std.specs.Prelude.{ℕ, ◌≡◌, ◌⊎◌, ◌+◌, ◌-◌, ◌≤◌, List, [], ◌∷◌, ◌++◌, length, take, drop, Option, Some, Result, Ok}
use Rattle.nt_lists.specs.Chaining.{◌>>=◌}
use Rattle.nt_view.specs.declared.page_place.PagePlace.{PagePlace}
use Rattle.nt_view.specs.declared.fault.ViewFault.{ViewFault}
use Rattle.nt_view.specs.declared.reading.PageStore.{PageStore}
use Rattle.nt_view.specs.Loads.{loaded_len, page_found}

-- the bytes of the pages so far
abbrev pub taken_bytes : PageStore → List ℕ
taken_bytes s = take s.taken s.bytes.items

-- the bytes behind them that would be those of this page
abbrev pub next_bytes : PagePlace → PageStore → List ℕ
next_bytes p s = take (loaded_len p) (drop s.taken s.bytes.items)

-- the bytes before, and those of one page more
abbrev pub with_page : List ℕ → ℕ → PagePlace → List ℕ → Result (List ℕ) ViewFault
with_page file i p before = page_found file i p >>= λ b. Ok (before ++ b)

-- how many bytes pages have together
abbrev pub lens_of : List PagePlace → ℕ
lens_of [] = 0
lens_of (p ∷ ps) = loaded_len p + lens_of ps

-- the bytes of each page, of pages that stand one behind the other
abbrev pub cut_up : List PagePlace → List ℕ → List (List ℕ)
cut_up [] bytes = []
cut_up (p ∷ ps) bytes = take (loaded_len p) bytes ∷ cut_up ps (drop (loaded_len p) bytes)

-- so many bytes are read for the page: its own alone, or more that all lie in a file of this size
pub record IsPageRun (p : PagePlace) (size len : ℕ) : Type 0 where
  pub first : loaded_len p ≤ len
  pub inside : (len ≡ loaded_len p) ⊎ (p.place + len ≤ size)

-- bytes of a file from a place on stand behind others, as many as were asked for, where the file has them
pub record IsReadFrom (file : Option (List ℕ)) (at len : ℕ) (old new : List ℕ) : Type 0 where
  pub got : List ℕ
  pub behind : new ≡ old ++ got
  pub read : (told : List ℕ) → file ≡ Some told → got ≡ take len (drop at told)

-- the bytes behind the pages so far begin with those of a page, by their places
pub record StandsNext (p : PagePlace) (s : PageStore) : Type 0 where
  pub here : s.place ≡ p.place
  pub room : s.taken + loaded_len p ≤ length s.bytes.items

-- the bytes behind the pages so far are those of a file of this size from their place on
pub record IsSeen (file : Option (List ℕ)) (size : ℕ) (s : PageStore) : Type 0 where
  pub sized : (told : List ℕ) → file ≡ Some told → size ≡ length told
  pub taken : s.taken ≤ length s.bytes.items
  pub within : s.place + (length s.bytes.items - s.taken) ≤ size
  pub ahead : (told : List ℕ) → file ≡ Some told → drop s.taken s.bytes.items ≡ take (length s.bytes.items - s.taken) (drop s.place told)

-- a page stands behind the pages so far, which are as before
pub record IsBrought (file : Option (List ℕ)) (size : ℕ) (p : PagePlace) (old new : PageStore) : Type 0 where
  pub taken : new.taken ≡ old.taken
  pub kept : taken_bytes new ≡ taken_bytes old
  pub next : StandsNext p new
  pub seen : IsSeen file size new

-- a page is one of the pages so far
pub record HasPageMore (file : Option (List ℕ)) (size : ℕ) (p : PagePlace) (old new : PageStore) : Type 0 where
  pub len : new.taken ≡ old.taken + loaded_len p
  pub seen : IsSeen file size new
