use Rattle.std.proofs.Common.{◌≡◌, ◌≤◌, ◌<◌, ℕ, List, length}
use Rattle.std.specs.Io.KnownBytes.{Consumes}
use Rattle.nt_event.specs.Limits.{max_line, max_number}
use Rattle.nt_event.specs.Lines.{LinesState, HasNoLf, lines_state}
use Rattle.nt_event.proofs.lines.LineReader.next_in.Given as goal

-- these bytes, which have no LF, were taken, at least one in each turn
pub record Gathered (old new : LinesState) (turns : ℕ) (bytes : List ℕ) : Type 0 where
  pub taken : Consumes old.left new.left bytes
  pub one_line : HasNoLf bytes
  pub few : length bytes ≤ max_line
  pub turns_made : turns ≤ length bytes
  pub number : new.number ≡ old.number
  pub room : 0 < length bytes → new.number < max_number
  pub faults : old.faults ≤ new.faults

abbrev pub invariant-loop : goal.invariant-loop
invariant-loop g l =
    let state = g.S.Source.state in
    Gathered (lines_state (state l.initial.self.source) l.initial.self) (lines_state (state l.self.source) l.self) l.counter l.bytes.items
