-- Which ranges of a book are spoiled: their contexts handed them back after faults.
use Rattle.std.specs.Prelude.{◌≡◌, ℕ, ◌<◌, length}
use Rattle.nt_machine.specs.History.{Fate, Out, Settled, Spoiled}
use Rattle.nt_book.specs.Books.{BookData, book_ranges, range_at}

-- the range wasn't spoiled
abbrev pub IsUnspoiled : Fate → Type 0
IsUnspoiled Out = Unit {0}
IsUnspoiled (Settled bytes) = Unit {0}
IsUnspoiled (Spoiled faults) = ⊥

-- no range before this one is spoiled
abbrev pub NoneSpoiledBefore : BookData → ℕ → Type 0
NoneSpoiledBefore book n = (k : ℕ) → k < n → IsUnspoiled (range_at book k).state

-- no range is spoiled
abbrev pub NoneSpoiled : BookData → Type 0
NoneSpoiled book = NoneSpoiledBefore book (length (book_ranges book))

-- the lowest range that is spoiled, with the faults that are kept of it
pub record IsFirstSpoiled (book : BookData) (range faults : ℕ) : Type 0 where
  pub inside : range < length (book_ranges book)
  pub spoiled : (range_at book range).state ≡ Spoiled faults
  pub first : NoneSpoiledBefore book range
