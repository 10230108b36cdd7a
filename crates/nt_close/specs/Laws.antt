-- What the steps by which a file is begun and closed leave of it.
use Rattle.std.specs.Prelude.{◌≡◌, ◌⊎◌, ℕ, ◌<◌, Bool, List, [], ◌∷◌, ◌++◌, length}
use Rattle.nt_outside.specs.Log.{Step, FailedAppend}
use Rattle.nt_outside.specs.Held.{Held, nothing_held}
use Rattle.nt_outside.specs.Order.{FirstByteLast}
use Rattle.nt_outside.specs.Reads.{Reads}
use Rattle.nt_container.specs.Spelling.{begun}
use Rattle.nt_grammar.specs.Table.{Table}
use Rattle.nt_book.specs.Books.{BookData}
use Rattle.nt_layout.specs.Finished.{finished}
use Rattle.nt_finished.specs.Filled.{IsArrangedBook}
use Rattle.nt_cuts.specs.Cuts.{IsOverFirst}
use Rattle.nt_close.specs.Steps.{closed_on, IsBegunSoFar, IsClosedPartly, IsClosedSoFar}
use Rattle.nt_close.specs.Filled.{filled_file, closing_tail, closing_front}

-- a file that was filled with ranges of a book is the finished file with these ranges once it is closed, wherever its page lists stand
abbrev pub ClosedIsFinished : Type 0
ClosedIsFinished =
    (staged : Bool) (t : Table) (book : BookData) (most : ℕ) (ranges : List (List ℕ)) (h : Held)
    → IsArrangedBook staged t most book ranges → h.image ≡ filled_file staged t book most ranges
    → (closed_on (closing_tail staged t book most) (closing_front staged t book most) h).image ≡ finished staged t book most ranges

-- the first byte is 0, and there is one
abbrev pub IsShut : List ℕ → Type 0
IsShut image = (rest : List ℕ) × (image ≡ 0 ∷ rest)

-- the last of these steps writes over the first byte, whole or not: no sync stands behind it
pub record EndsOverFirst (log : List Step) : Type 0 where
  pub before : List Step
  pub step : Step
  pub is : log ≡ before ++ step ∷ []
  pub over : IsOverFirst step

-- until all steps are taken the first byte is 0: of a file that is begun, unless nothing is known of it but that its first append
-- failed; of one that is closed, unless all of it stands there
pub record FirstByteIsLast : Type 0 where
  pub begins : (blob : List ℕ) (left : Held) → IsBegunSoFar (begun 0 0 0) blob nothing_held left
      → IsShut left.image ⊎ ((n : ℕ) × (left.log ≡ FailedAppend n ∷ []))
  pub closes : (tail front : List ℕ) (h left : Held) → IsShut h.image → IsClosedSoFar tail front h left
      → IsShut left.image ⊎ (left.image ≡ (closed_on tail front h).image)
  -- and where a step failed and all of it stands there, it was that of this byte, or the sync behind it
  pub fails : (tail front : List ℕ) (h left : Held) → IsShut h.image → IsClosedPartly tail front h left
      → IsShut left.image ⊎ ((left.image ≡ (closed_on tail front h).image) × EndsOverFirst left.log)

-- all that is written stays before the first byte is written over
pub record StepsStayInOrder : Type 0 where
  pub begins : (blob : List ℕ) (left : Held) → IsBegunSoFar (begun 0 0 0) blob nothing_held left → FirstByteLast left.log
  pub closes : (tail front : List ℕ) (h left : Held) → 0 < length h.image → Reads h.log h.image → FirstByteLast h.log
      → IsClosedSoFar tail front h left → FirstByteLast left.log
