-- A part of a line, as it is taken from the bytes that are ready.
use Rattle.std.specs.Prelude.{⊤, ◌≡◌, ◌≢◌, ℕ, ◌+◌, ◌<◌, ◌≤◌, Bool, true, false, List, [], ◌∷◌, ◌++◌, length, take, Option, Result, Ok, Err}
use Rattle.std.specs.Io.KnownBytes.{Consumes}
use Rattle.nt_event.specs.Limits.{max_line}
use Rattle.nt_event.specs.Lines.{LinesState, HasNoLf, LeftBegins}
use Rattle.nt_event.specs.declared.lines.LineError.{LineError}
use Rattle.nt_event.specs.declared.lines.LineError.TheVariants.{Fault, TooLong, Memory}

-- a byte of ASCII, and no LF
pub record Inner (x : ℕ) : Type 0 where
  pub ascii : x < 128
  pub no_lf : x ≢ 10

-- all of them
abbrev pub AllInner : List ℕ → Type 0
AllInner [] = ⊤
AllInner (x ∷ xs) = Inner x × AllInner xs

-- a place in bytes, before which all are such
pub record IsStop (bytes : List ℕ) (at : ℕ) : Type 0 where
  pub high : at ≤ length bytes
  pub before : AllInner (take at bytes)

-- a part without an LF is put behind what was before, and it is taken with this end
pub record TakesMore (old new : LinesState) (before after end : List ℕ) : Type 0 where
  pub part : List ℕ
  pub grown : after ≡ before ++ part
  pub one_line : HasNoLf part
  pub taken : Consumes old.left new.left (part ++ end)
  pub few : length after ≤ max_line

-- with these bytes before, the next ones are more than a line may have
pub record IsTooMany (left : Option (List ℕ)) (before : List ℕ) : Type 0 where
  pub front : List ℕ
  pub begins : LeftBegins left front
  pub one_line : HasNoLf front
  pub many : max_line < length before + length front

-- the line ends with its LF, or goes on by one byte at least, or is too long
abbrev pub TakesPart : LinesState → LinesState → List ℕ → List ℕ → Result Bool LineError → Type 0
TakesPart old new before after (Ok true) = TakesMore old new before after (10 ∷ [])
TakesPart old new before after (Ok false) = TakesMore old new before after [] × (length before < length after)
TakesPart old new before after (Err (TooLong line)) = (line ≡ old.number + 1) × IsTooMany old.left before
TakesPart old new before after (Err Memory) = ⊤
TakesPart old new before after (Err Fault) = ⊥
