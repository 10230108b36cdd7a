-- A text, line by line. Each line ends with an LF, which the last may lack.
use Rattle.std.specs.Prelude.{⊤, ◌≡◌, ◌≢◌, ℕ, ◌+◌, ◌<◌, ◌≤◌, ◌⊎◌, List, [], ◌∷◌, ◌++◌, length, take, get_or, slice_index}
use Rattle.std.specs.Prelude.{Option, None, Some, Result, Ok, Err}
use Rattle.std.specs.List.{slice_range}
use Rattle.std.specs.Io.KnownBytes.{prepend_known, Consumes, IsAtEnd}
use Rattle.nt_outside.specs.Faults.{Rose}
use Rattle.nt_outside.specs.Source.{SourceState}
use Rattle.nt_event.specs.Limits.{max_line, max_number}
use Rattle.nt_event.specs.declared.lines.Line.{Line}
use Rattle.nt_event.specs.declared.lines.LineError.{LineError}
use Rattle.nt_event.specs.declared.lines.LineError.TheVariants.{Fault, TooLong, Memory}
use Rattle.nt_event.specs.declared.lines.LineReader.{LineReader}

-- what a reader of lines has still to give, and its counts
pub record LinesState : Type 0 where
  -- the bytes that no line has had, where the source tells them
  pub left : Option (List ℕ)
  -- how many lines were given
  pub number : ℕ
  -- how often a read of the source has failed
  pub faults : ℕ

-- a reader over a source in this state
abbrev pub lines_state : {S : Type 0} → SourceState → LineReader S → LinesState
lines_state s r = record { left = prepend_known (slice_range r.piece.items r.at r.end) s.left; number = r.number; faults = s.faults }

-- no line was given
abbrev pub before_first_line : SourceState → LinesState
before_first_line s = record { left = s.left; number = 0; faults = s.faults }

-- no byte is an LF
abbrev pub HasNoLf : List ℕ → Type 0
HasNoLf bytes = (k : ℕ) → k < length bytes → slice_index bytes k ≢ 10

-- what is left begins with these bytes
pub record LeftBegins (left : Option (List ℕ)) (front : List ℕ) : Type 0 where
  pub rest : Option (List ℕ)
  pub taken : Consumes left rest front

-- what is left begins with a line that has more bytes than a line may have
pub record BeginsTooLong (left : Option (List ℕ)) : Type 0 where
  pub front : List ℕ
  pub begins : LeftBegins left front
  pub one_line : HasNoLf front
  pub many : max_line < length front

-- something is left
pub record HasMore (left : Option (List ℕ)) : Type 0 where
  pub front : List ℕ
  pub begins : LeftBegins left front
  pub some : 0 < length front

-- the line and its LF are taken, or all that is left, where that is something and has no LF
abbrev pub EndsLine : Option (List ℕ) → Option (List ℕ) → List ℕ → Type 0
EndsLine old new bytes = Consumes old new (bytes ++ 10 ∷ []) ⊎ (Consumes old new bytes × IsAtEnd new × (0 < length bytes))

-- the next line, with its number
pub record IsNextLine (old new : LinesState) (line : Line) : Type 0 where
  pub ends : EndsLine old.left new.left line.bytes
  pub one_line : HasNoLf line.bytes
  pub fits : length line.bytes ≤ max_line
  pub number : (line.number ≡ old.number + 1) × (line.number ≤ max_number)
  pub counted : new.number ≡ line.number

-- nothing was left and nothing is, and no line was counted
pub record StaysAtEnd (old new : LinesState) : Type 0 where
  pub was : IsAtEnd old.left
  pub is : IsAtEnd new.left
  pub number : new.number ≡ old.number

-- the next line, none exactly at the end, where the reader stays; a line that is too long, or has too large a number; a fault of the
-- source, or no memory
abbrev pub GivesLine : LinesState → LinesState → Result (Option Line) LineError → Type 0
GivesLine old new (Ok (Some line)) = IsNextLine old new line
GivesLine old new (Ok None) = StaysAtEnd old new
GivesLine old new (Err Fault) = Rose old.faults new.faults
GivesLine old new (Err (TooLong line)) = (line ≡ old.number + 1) × (BeginsTooLong old.left ⊎ ((max_number < line) × HasMore old.left))
GivesLine old new (Err Memory) = ⊤

module _ {S : Type 0} (r : LineReader S) where
  -- the bytes that are ready
  abbrev pub ready_bytes : List ℕ
  ready_bytes = slice_range r.piece.items r.at r.end

  -- the first so many of them
  abbrev pub ready_line : ℕ → List ℕ
  ready_line len = take len ready_bytes

  -- they are a line, its LF is behind them, and it can be given
  pub record HasReady (len : ℕ) : Type 0 where
    pub within : len < length ready_bytes
    pub lf : get_or ready_bytes len 0 ≡ 10
    pub one_line : HasNoLf (ready_line len)
    pub fits : len ≤ max_line
    pub number : r.number < max_number
